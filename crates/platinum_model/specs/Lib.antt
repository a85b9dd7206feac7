pub mod Element
pub mod Calibration
pub mod Sample
pub mod Pair

pub mod Values
pub mod Keys
pub mod Calibration
pub mod Accepted

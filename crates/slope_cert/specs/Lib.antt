pub mod Curvature
pub mod Sizes
pub mod Meters

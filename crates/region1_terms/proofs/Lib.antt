pub mod Raised
pub mod Scaled
pub mod Coefficients
pub mod Temperatures

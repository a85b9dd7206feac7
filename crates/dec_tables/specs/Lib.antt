pub mod Coefficients
pub mod Parts
pub mod Sizes
pub mod Polynomials

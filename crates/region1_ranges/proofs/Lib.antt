pub mod Ends
pub mod Variables
pub mod Coefficients
pub mod Constant
pub mod Within

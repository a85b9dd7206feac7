pub mod Curve
pub mod Steps

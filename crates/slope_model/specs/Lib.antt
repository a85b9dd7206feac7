pub mod Slope

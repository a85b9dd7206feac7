pub mod Place
pub mod Ranges

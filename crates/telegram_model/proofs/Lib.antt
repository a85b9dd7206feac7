pub mod Dates
pub mod Sizes
pub mod Worked

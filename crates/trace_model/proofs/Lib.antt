pub mod Lines
pub mod Images
pub mod Moments
mod Worked

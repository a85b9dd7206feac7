pub mod Verdicts
pub mod Ranges

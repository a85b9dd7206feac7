pub mod Appends
pub mod Heard

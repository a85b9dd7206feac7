pub mod Adds
pub mod Pulses

pub mod Events
pub mod Pulses

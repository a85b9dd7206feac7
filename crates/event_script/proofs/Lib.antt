pub mod Bytes
pub mod Cuts
pub mod Numbers
pub mod Held
pub mod Ends
pub mod Nexts
pub mod Says
pub mod Pulses

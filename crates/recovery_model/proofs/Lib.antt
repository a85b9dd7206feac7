pub mod Shown
pub mod Acknowledged
pub mod Held
pub mod Bounded
pub mod Decided
mod Worked

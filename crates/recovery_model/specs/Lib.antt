pub mod Shown
pub mod Right
pub mod Bounded
pub mod Decided

pub mod Joined
pub mod Bounded
pub mod Choices
pub mod Worked

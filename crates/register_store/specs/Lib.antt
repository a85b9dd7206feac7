pub mod Faults
pub mod Loads
pub mod Looks
pub mod Recovered
pub mod Formatted
pub mod Commits
pub mod Works

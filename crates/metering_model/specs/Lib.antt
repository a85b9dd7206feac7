pub mod Limits
pub mod Events
pub mod Settings
pub mod Counting
pub mod Records

pub mod Calendar
pub mod Entries
pub mod Texts

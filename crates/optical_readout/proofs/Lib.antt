pub mod Addresses
pub mod EntryLines
pub mod Pushes

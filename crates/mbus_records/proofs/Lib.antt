pub mod Pushes
pub mod WholeTemps
pub mod MonthEntries
pub mod Composed
pub mod Steps

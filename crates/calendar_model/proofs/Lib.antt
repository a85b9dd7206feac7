pub mod DayLemmas
pub mod MonthLemmas
pub mod EntryLemmas
pub mod Worked

pub mod Places
pub mod Taken
pub mod EachDay
pub mod Spelled
pub mod WrittenTelegrams
pub mod WrittenMessages
pub mod Mended
pub mod MendedDays

pub mod Lines
pub mod Numbers
pub mod Dates
pub mod Hex
pub mod Grammar

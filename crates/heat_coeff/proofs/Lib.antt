pub mod Quotients
pub mod Widths
pub mod Holding

pub mod Fraction
pub mod Rounding
pub mod Enclosure

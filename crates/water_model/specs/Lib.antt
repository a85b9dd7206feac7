pub mod Decimal
pub mod Region1
pub mod Water

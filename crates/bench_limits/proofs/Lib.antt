pub mod Judging
pub mod Products

pub mod Bench
pub mod Coef
pub mod ReadLines
pub mod Temp
pub mod Texts
pub mod Water

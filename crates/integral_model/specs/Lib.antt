pub mod Integral
pub mod Near

pub mod InForce
pub mod Litres

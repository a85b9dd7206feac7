pub mod Ints
pub mod Same
pub mod Laws
pub mod Roundings
pub mod Order
pub mod Powers
pub mod Enclosures
mod Worked

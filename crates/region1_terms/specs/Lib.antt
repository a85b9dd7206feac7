pub mod Variables
pub mod Monomial

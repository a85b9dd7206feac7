pub mod Facts
pub mod Polynomials
pub mod Computed
pub mod Answers
pub mod Parts
pub mod Scales

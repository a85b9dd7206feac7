pub mod TearLemmas
pub mod ToldLemmas
pub mod ReadLemmas
pub mod Stretches

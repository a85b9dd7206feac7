mod TextLemmas
mod LatestLemmas
pub mod RuleLemmas
pub mod Dates

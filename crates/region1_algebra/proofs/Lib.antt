pub mod Series
pub mod Rows
pub mod Factors
pub mod Tables
pub mod TableForms

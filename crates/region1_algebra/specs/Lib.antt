pub mod Terms
pub mod Forms
pub mod TableForms

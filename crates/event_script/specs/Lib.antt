pub mod Views
pub mod Next
pub mod Held
pub mod Filled

pub mod Worked
pub mod After

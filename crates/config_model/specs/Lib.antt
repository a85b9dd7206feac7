pub mod Configuration
pub mod Standard

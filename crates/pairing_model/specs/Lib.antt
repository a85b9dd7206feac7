pub mod Settings
pub mod Setup
pub mod Journal
pub mod Pairing

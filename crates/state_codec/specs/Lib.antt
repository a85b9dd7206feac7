pub mod Reading
pub mod Header
pub mod Slot

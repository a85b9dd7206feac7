pub mod Fields
pub mod Header
pub mod Slot
pub mod Stored
pub mod Slots

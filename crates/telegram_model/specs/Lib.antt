pub mod Values
pub mod Telegram

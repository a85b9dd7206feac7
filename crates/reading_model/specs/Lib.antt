pub mod Rules
pub mod Fields
pub mod Records
pub mod Telegrams
pub mod Messages
pub mod Written

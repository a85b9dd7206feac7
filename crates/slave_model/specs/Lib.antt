pub mod Heard
pub mod Replies

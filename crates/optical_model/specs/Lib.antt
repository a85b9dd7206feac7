pub mod Requests
pub mod Messages
pub mod Replies

pub mod Commands
pub mod Conversations
pub mod Devices
pub mod Options
pub mod Reading
pub mod Replies
pub mod Requests

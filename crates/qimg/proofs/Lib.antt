pub mod Known
pub mod Hex
pub mod Replies
pub mod Runs
pub mod Scripts

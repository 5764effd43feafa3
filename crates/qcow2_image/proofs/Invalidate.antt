pub mod Dropped
pub mod Pinned
pub mod Reasons
pub mod Reading
pub mod TakenOver
pub mod Calls

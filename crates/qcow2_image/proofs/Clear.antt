pub mod Held
pub mod Touched
pub mod Ranges
pub mod Entries
pub mod Cleared
pub mod Between
pub mod ClearCalls
pub mod ClearedCalls

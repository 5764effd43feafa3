pub mod Common
pub mod Errors
pub mod Images
pub mod Lookups
pub mod Parts

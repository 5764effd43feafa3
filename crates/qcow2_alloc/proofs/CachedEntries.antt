-- Facts about the entries of a cache.
pub mod Cases
pub mod Each
pub mod FirstPinned
pub mod Flushing
pub mod Evictions
pub mod Knowing
pub mod Lists
pub mod Pins
pub mod Putting
pub mod Room
pub mod Turns
pub mod Staying
pub mod Hits
pub mod Keeping

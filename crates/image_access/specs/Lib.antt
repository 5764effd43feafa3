pub mod Backing
pub mod CallCount
pub mod Changes
pub mod Contents
pub mod MemBacking
pub mod MemStorage
pub mod Moments
pub mod TraceStorage

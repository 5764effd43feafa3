pub mod Common
pub mod Lemmas
pub mod Turns
mod Opening
mod FirstWrites
mod Places
pub mod Bytes
mod Beyond
mod Copied
mod Marking
mod Meanings
mod Answering
mod Chunks
mod Writing
mod Reading
mod Runs
mod Respecting
mod LookingUp
pub mod Converting
mod WrittenParts
pub mod Exporting
mod Differing
mod Reasons
mod ImportLimits
mod Cleared
mod Resized
mod SpecialReads
mod ReadCauses
mod Causing
mod Untaken
mod Parts
mod Told
mod Unwritten
pub mod Counting
mod Quiet
mod FailingOnSound
mod WriteCommands

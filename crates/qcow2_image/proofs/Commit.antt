pub mod Committing
pub mod Entered
pub mod CommitCalls
pub mod Released
pub mod Copied

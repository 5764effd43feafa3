pub mod Compared
pub mod Digits
pub mod Layouts
pub mod Statuses
pub mod Tens

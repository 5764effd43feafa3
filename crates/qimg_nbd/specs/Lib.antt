pub mod Images
pub mod Words

pub mod FileStorage
pub mod StreamedFile

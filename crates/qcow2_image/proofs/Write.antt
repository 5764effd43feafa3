pub mod Written
pub mod Hosted
pub mod Put
pub mod PutParts
pub mod ToldPuts
pub mod OwnData

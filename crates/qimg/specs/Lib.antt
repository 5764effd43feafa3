pub mod Conversions
pub mod Creating
pub mod Lines
pub mod Printed
pub mod Printing
pub mod Program
pub mod Reading
pub mod Words

pub mod Waits
pub mod Words

pub mod Feeding
pub mod Fetched
pub mod Taken
pub mod Texts
pub mod Written

pub mod Work
pub mod Hands
pub mod Driven

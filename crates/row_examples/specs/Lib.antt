pub mod Acts
pub mod Wants

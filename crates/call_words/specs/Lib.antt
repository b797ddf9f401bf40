pub mod Command
pub mod Gives

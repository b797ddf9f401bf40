pub mod Finished
pub mod Hands

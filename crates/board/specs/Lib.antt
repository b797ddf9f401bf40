pub mod Counts
pub mod Rule
pub mod Plays
pub mod Calls
pub mod Holding
pub mod Tasks
pub mod Pass
pub mod Names

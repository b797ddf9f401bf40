mod Calls
mod Tallies
pub mod Agreement

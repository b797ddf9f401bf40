pub mod AfterTurns
pub mod Dealing
pub mod Together

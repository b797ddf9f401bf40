pub mod CommandCases
pub mod Refusals

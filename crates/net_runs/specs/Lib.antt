pub mod Kept
pub mod Puts
pub mod Ran
pub mod ReadyRuns
pub mod SetRuns
pub mod Traces

pub mod Agenda
pub mod Answer
pub mod Examples
pub mod Feeds
pub mod Joins
pub mod Jumps
pub mod Walks

pub mod Dealt
pub mod Drives
pub mod Lefts
pub mod Meetings
pub mod Zips

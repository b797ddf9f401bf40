pub mod Rooms
pub mod WireState

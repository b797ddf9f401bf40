pub mod Buffers
pub mod Dams
pub mod Gate
pub mod GateLists
pub mod Gates
pub mod Passing

pub mod PoolState
pub mod Places
pub mod Blocks
pub mod Kept
pub mod Queues

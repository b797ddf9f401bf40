pub mod Lanes
pub mod Collation
pub mod Queues
pub mod Merging
pub mod Plans
pub mod Stage

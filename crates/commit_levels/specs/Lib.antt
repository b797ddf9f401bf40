pub mod UnitState
pub mod Kept
pub mod Licensed

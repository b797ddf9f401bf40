pub mod Output
pub mod Hands
pub mod Desks
pub mod Cycles
pub mod SpecsLists
pub mod SpecsStage

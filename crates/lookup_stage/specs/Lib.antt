pub mod Entry
pub mod Masters
pub mod Lookup
pub mod LookupStage

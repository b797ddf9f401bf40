pub mod FirstRecords
pub mod LastRecords
pub mod Lacks
pub mod Parts
pub mod PickSifts
pub mod Whole
pub mod WindowSteps

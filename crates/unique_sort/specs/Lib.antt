pub mod Counting
pub mod Fronts
pub mod OrderLists
pub mod OrderStage
pub mod Runs
pub mod SortLists
pub mod UniqueLists
pub mod Words

pub mod AnyPick
pub mod Choices
pub mod Located
pub mod PickLists
pub mod Picks
pub mod Select
pub mod SelectLists
pub mod Windows

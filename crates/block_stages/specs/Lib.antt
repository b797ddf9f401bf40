pub mod Block
pub mod Blocks
pub mod Cutting
pub mod Delimiting

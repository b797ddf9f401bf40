pub mod Grouping
pub mod Replacements
pub mod RunLists

pub mod AnyEdit
pub mod AnyLists
pub mod Edit
pub mod EditLists
pub mod Groups
pub mod Replacing
pub mod Runs
pub mod Tables

pub mod Examples
pub mod Shown
pub mod Stalls
pub mod Told
pub mod Wanting

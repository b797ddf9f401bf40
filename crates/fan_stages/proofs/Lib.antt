mod AnyPlans
pub mod Ascending
mod Dealing
pub mod FanIns
mod Fitting
pub mod Gathers
pub mod Laying
pub mod Overlaid
pub mod Passes
pub mod Rounds
pub mod Sights
pub mod Synchronised
pub mod Turns

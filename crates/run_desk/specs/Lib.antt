pub mod Blank
pub mod Desk
pub mod Holding
pub mod Passing
pub mod Relaying
pub mod Standing
pub mod Telling
pub mod Turns

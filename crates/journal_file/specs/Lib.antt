pub mod Faults
pub mod Judged
pub mod Made
pub mod Text

pub mod Absent
pub mod Device
pub mod DeviceLists

pub mod FewPlaces
pub mod Families

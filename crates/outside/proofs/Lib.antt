pub mod FilePuts
pub mod GivenBytes

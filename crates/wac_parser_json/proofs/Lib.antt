pub mod Writing
pub mod Exemplified

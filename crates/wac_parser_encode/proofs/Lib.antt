pub mod Meaning
pub mod Refused

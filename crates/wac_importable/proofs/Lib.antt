pub mod Unbroken
pub mod Instantiated
pub mod Documents

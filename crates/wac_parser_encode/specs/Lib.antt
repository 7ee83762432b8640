pub mod Processing
pub mod Meaning
pub mod Sizes
pub mod Refused

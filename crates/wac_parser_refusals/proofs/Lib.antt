pub mod Outcomes
pub mod Sources
pub mod Alike

pub mod Sources
pub mod Causes
pub mod Views
pub mod Outcomes

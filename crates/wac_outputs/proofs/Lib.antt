pub mod Sources
pub mod Called

pub mod Counted
pub mod Planned
pub mod Written
pub mod Defined

pub mod Substitution
pub mod Reading
pub mod Given
pub mod Steps
pub mod Laws

pub mod Adding
pub mod Refusing
pub mod Running

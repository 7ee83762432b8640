pub mod Written
pub mod Forms
pub mod Walked
pub mod Components

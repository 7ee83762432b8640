pub mod Steps
pub mod Stays
pub mod Exact
pub mod Loops
pub mod Rows
pub mod All
pub mod Laws

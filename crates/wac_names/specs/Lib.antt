pub mod ComponentNames
pub mod NameTests

pub mod Apart
pub mod Handing
pub mod Meeting
pub mod Refusing
pub mod Resolved
pub mod Searching
pub mod StreamLaws
pub mod Zips

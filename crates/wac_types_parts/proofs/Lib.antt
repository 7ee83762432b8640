pub mod Lists
pub mod Ids
pub mod PartLaws
pub mod InsideLaws
pub mod Resources
pub mod PartsStated

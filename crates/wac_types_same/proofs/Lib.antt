pub mod Lists
pub mod EqualLabels
pub mod Places

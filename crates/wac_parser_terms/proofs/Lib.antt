pub mod Places
pub mod Tried
pub mod TextLaws
pub mod Types
pub mod Whiles
pub mod Tokens

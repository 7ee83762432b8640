pub mod Files
pub mod Places
pub mod Declarations
pub mod Worlds
pub mod Plugs
pub mod Laws

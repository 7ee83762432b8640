pub mod Plugging
pub mod Wired
pub mod Lookups
pub mod Steps
pub mod Stops
pub mod Plans

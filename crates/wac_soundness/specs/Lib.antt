pub mod Sound
pub mod Wired
pub mod Encoded

pub mod Places
pub mod Origins
pub mod Listing
pub mod Tied
pub mod Noted
pub mod Wired

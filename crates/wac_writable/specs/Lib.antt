pub mod Unnamed
pub mod Holders
pub mod Values
pub mod Items
pub mod Tests
pub mod Uses
pub mod Givers

pub mod Trees
pub mod Listed
pub mod Rows
pub mod Typed
pub mod Graphs
pub mod Wirings
pub mod Sound
pub mod Encoded

pub mod Trees
pub mod Views
pub mod Accessors
pub mod Segments
pub mod Bare
pub mod Named

pub mod Looking
pub mod Ordering
pub mod TreeLaws
pub mod Unfolded
pub mod ItemKinds
pub mod Items
pub mod Numbered
pub mod Caching
pub mod ValueTrees
pub mod CoreItems
pub mod Checks
pub mod Reports
pub mod Meeting
mod Worded

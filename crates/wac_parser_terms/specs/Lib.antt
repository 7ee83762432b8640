pub mod Absent
pub mod Ends
pub mod Parts
pub mod Views

pub mod Examples
pub mod SegmentLaws

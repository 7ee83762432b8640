pub mod Manifests
pub mod Views
pub mod Words

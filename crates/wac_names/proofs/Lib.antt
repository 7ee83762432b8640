pub mod Parts
pub mod NameForms
pub mod NameKinds

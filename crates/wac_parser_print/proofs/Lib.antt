pub mod Adding
pub mod FormLaws
pub mod TypeViews
pub mod ValueLaws
pub mod Exemplified

pub mod Views
pub mod Texts
pub mod Results
pub mod Printing
pub mod Printers
pub mod Objects
pub mod Values
pub mod Examples

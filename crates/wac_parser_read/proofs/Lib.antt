pub mod MadeOfParts
pub mod Parsing

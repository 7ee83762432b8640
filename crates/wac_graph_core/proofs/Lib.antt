pub mod NodeMap
pub mod Made
pub mod Listed
pub mod Rising
pub mod Walks
pub mod Found
pub mod NodeSteps
pub mod EdgeSteps
pub mod GraphSteps
pub mod Removal
pub mod ExportSteps
pub mod PlaceSteps
pub mod Twice
pub mod Items
pub mod Calls
pub mod Gathering
pub mod Registering
pub mod Stating
pub mod Lending
pub mod Reached
pub mod Depending
pub mod Below
pub mod DefineSteps
pub mod WiringLaws
mod Keyed
mod TieKeys
pub mod TiedEdges
mod Following
mod Tying
mod Placing
mod EdgeLooks
mod NamedLists
mod TypeSets
mod Noting
mod Indexing
mod Importing
pub mod Passed
pub mod Copied
mod Compared
mod Halving
mod Inserting
mod EdgeOps

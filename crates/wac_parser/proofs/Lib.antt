pub mod OrDeep
pub mod OrDeepLists
pub mod TypesOrDeep
pub mod FuncsOrDeep
pub mod DeclsOrDeep
pub mod WorldsOrDeep
pub mod ExprsOrDeep
pub mod DocumentsOrDeep

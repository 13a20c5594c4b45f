pub mod CatalogSaid
pub mod CauseLines
pub mod CodeLines
pub mod Endings
pub mod NameWords
pub mod Saying
pub mod TriedNames

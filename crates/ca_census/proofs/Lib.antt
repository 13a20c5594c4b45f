pub mod SettledSearches
pub mod CourseKinds
pub mod CensusEntries
pub mod ObjectCells
pub mod CensusClaims
pub mod CensusFiles

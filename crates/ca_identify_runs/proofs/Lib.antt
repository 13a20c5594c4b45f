pub mod CatalogWrites
pub mod CodedFiles
pub mod Entries
pub mod FaultReports
pub mod Settles

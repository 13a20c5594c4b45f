pub mod Prelude
pub mod Catalog
pub mod CatalogSays
pub mod FaultReports
pub mod Names
pub mod WrittenOn
pub mod inner

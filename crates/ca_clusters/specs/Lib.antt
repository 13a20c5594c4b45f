pub mod Prelude
pub mod Clusters
pub mod Objects
pub mod Ranges
pub mod inner

pub mod Paths
pub mod Utf8

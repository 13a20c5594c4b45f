pub mod Prelude
pub mod Objects
pub mod Counts
pub mod Places
pub mod Lines
pub mod Files
pub mod Runs
pub mod inner

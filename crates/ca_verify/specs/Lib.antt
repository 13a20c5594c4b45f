pub mod Examples
pub mod NeededFiles
pub mod inner

pub mod TreeLooks
pub mod inner

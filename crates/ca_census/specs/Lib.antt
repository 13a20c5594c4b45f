pub mod Prelude
pub mod Settlings
pub mod Censuses
pub mod Files
pub mod inner

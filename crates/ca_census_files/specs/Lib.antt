pub mod Prelude
pub mod Names
pub mod Folders
pub mod Files
pub mod FilesSay
pub mod inner

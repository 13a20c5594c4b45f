pub mod Prelude
pub mod Captions
pub mod Details
pub mod Drawn
pub mod Runs
pub mod Shown
pub mod inner

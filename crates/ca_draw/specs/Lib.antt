pub mod Prelude
pub mod Windows
pub mod Marks
pub mod Drawings
pub mod Views
pub mod inner

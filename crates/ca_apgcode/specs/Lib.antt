pub mod Prelude
pub mod Grids
pub mod Representation
pub mod Order
pub mod Orientations
pub mod Objects
pub mod inner

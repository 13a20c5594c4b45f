pub mod Countings
pub mod ObjectPlanes
pub mod inner

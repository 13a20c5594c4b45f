pub mod Drawings
pub mod LeastBoxes
pub mod Populations
pub mod FrameShows
pub mod FrameRounds
pub mod RowBoxes
pub mod LargeObjects
pub mod PlaneCodes

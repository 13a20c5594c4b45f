pub mod Cells
pub mod LifeSpans
pub mod Ready
pub mod Summed

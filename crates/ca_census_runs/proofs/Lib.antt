pub mod AddedFiles
pub mod Answered
pub mod FilesTold
pub mod LabelCounts
pub mod OneOrder
pub mod OneText
pub mod PlacedFiles
pub mod Uncounted

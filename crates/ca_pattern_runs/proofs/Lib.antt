pub mod DrawnFiles
pub mod OfFiles
pub mod OneDrawing

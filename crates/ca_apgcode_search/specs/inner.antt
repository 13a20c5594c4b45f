-- What only private contracts speak of.
pub mod Drawn
pub mod Frames
pub mod Large
pub mod Shown

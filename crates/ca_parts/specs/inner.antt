-- What only private contracts speak of.
pub mod Apart
pub mod Rows
pub mod Courses
pub mod Tracks
pub mod Sweeps
pub mod Taking
pub mod Sides

pub mod Marks
pub mod Reading

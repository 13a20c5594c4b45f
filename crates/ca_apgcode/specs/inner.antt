-- What only private contracts speak of.
pub mod Puts
pub mod Lengths
pub mod Reading
pub mod Drawing
pub mod Turned
pub mod Least
pub mod Rounds
pub mod Sides

-- What only private contracts speak of.
pub mod Moves
pub mod Places
pub mod BitRuns

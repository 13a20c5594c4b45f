-- What only private contracts speak of.
pub mod Shifts
pub mod Runs
pub mod Encounters
pub mod Earlier
pub mod Groups
pub mod Regions

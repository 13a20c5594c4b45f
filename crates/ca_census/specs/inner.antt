-- What only private contracts speak of.
pub mod Searches

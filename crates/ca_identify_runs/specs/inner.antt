-- What only private contracts speak of.
pub mod CodedLooks
pub mod Searches
pub mod Spent

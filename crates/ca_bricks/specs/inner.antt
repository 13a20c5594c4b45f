-- What only private contracts speak of.
pub mod Neighbourhoods
pub mod Planes

-- What only private contracts speak of.
pub mod Strips
pub mod Blanks

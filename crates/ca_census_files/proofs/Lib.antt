pub mod FilesSaid
pub mod Numbered
pub mod NumberedNames
pub mod OutOfRange

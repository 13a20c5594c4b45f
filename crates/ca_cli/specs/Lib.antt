pub mod Words
pub mod Values
pub mod RawWords
pub mod Requests
pub mod Folders

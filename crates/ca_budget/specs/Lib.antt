pub mod Prelude
pub mod Spending
pub mod Tries

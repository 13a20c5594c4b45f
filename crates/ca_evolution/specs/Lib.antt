pub mod Prelude
pub mod Later
pub mod Spending
pub mod Steps

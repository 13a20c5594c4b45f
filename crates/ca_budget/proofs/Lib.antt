pub mod Powers
pub mod Spent

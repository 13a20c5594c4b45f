pub mod EvolvedPatterns
pub mod Spending
pub mod Steps
pub mod Vectors

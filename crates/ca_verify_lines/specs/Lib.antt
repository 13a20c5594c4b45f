pub mod Prelude
pub mod Reports
pub mod Verdicts

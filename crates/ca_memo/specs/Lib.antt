pub mod Prelude
pub mod Pages
pub mod SlotResults

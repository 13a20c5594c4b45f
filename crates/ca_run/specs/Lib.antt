pub mod Prelude
pub mod Centre
pub mod Leaping
pub mod Advanced
pub mod Memo
pub mod inner

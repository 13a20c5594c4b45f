-- Definitions that private contracts alone cite: how a text is read, part by part. No public contract rests on them.
pub mod Leaves
pub mod Numbers
pub mod Comments
pub mod Lines
pub mod Reading
pub mod Written

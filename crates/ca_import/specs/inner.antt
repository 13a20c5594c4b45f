-- Definitions that private contracts alone cite: how a text is read. No public contract rests on them.
pub mod Lines
pub mod Reading
pub mod Drawn
pub mod Writing

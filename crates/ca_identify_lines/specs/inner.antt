-- Definitions that private contracts alone cite. No public contract rests on them.
pub mod Tried

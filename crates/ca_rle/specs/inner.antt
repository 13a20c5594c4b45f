-- Definitions that private contracts alone cite: how a text is read and written, part by part. No public contract rests on them.
pub mod Extent
pub mod Boxes
pub mod FrontParts
pub mod HeaderParts
pub mod BodyFaults
pub mod ItemParts
pub mod Written
pub mod RunByRun

-- Definitions that private contracts alone cite. No public contract rests on them.
pub mod TextParts
pub mod TablePlaces
pub mod TableSearch
pub mod TableChoice
pub mod TableCrowd
pub mod TableStates
pub mod TransitionIndices
pub mod TableDistinct
pub mod TableStored
pub mod TableReading
pub mod TableSettings
pub mod TableFields
pub mod TableStatements
pub mod TableSlots
pub mod TableNames
pub mod TableSaid
pub mod TableSaying

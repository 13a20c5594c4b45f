-- What private contracts speak of.
pub mod Order
pub mod CellsAhead
pub mod Row
pub mod Window
pub mod OutOfReach
pub mod Written

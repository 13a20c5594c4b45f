-- The names of this crate's definitions that other crates and proofs cite, passed on from one place. It declares nothing.
pub use Rattle.ca_quad.specs.Squares.{IsParted, joined_cells, cell_of, IsOf, one_cell, level_of, place_id, square_of, level, cells_in, meaning_of_id, node_square, square_named, IsAmong, digit, cells4, cells2, shown_cells4}
pub use Rattle.ca_quad.specs.Sound.{IsSoundStore, Grows, AddsOnly, HasParts, IsStorable, node_at}
pub use Rattle.ca_quad.specs.Trees.{HoldsAll, cell, IsEmpty, AreQuarters, IsTree, IsTrimmed, ShowsSquare, IsIn, AreFour, IsWithinLevel, AreCorners, HasMoreStates, AreSame}
pub use Rattle.ca_quad.specs.Boxes.{IsLeastWideBox, IsDead, IsInWideBox, AreSquareBoxes}
pub use Rattle.ca_quad.specs.Expanded.{HasCellOutsidePlane, FitsPlane}
pub use Rattle.ca_quad.specs.Shifted.{shifted_cells, IsShiftRefused}
pub use Rattle.ca_quad.specs.Added.{IsPartOf, IsPartedPart, itself, in_part, IsCopy, AddsCopies, AreCopies, LiesIn}
pub use Rattle.ca_quad.specs.SquareValues.{square_value, KeepValues, IsClosedUnderParts}

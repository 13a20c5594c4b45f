-- The names of this crate's definitions that other crates and proofs cite, passed on from one place. It declares nothing.
pub use Rattle.ca_apgcode.specs.Grids.{GridCells, IsGrid, IsLeastGrid, cell, MakesLive, IsLeastOf}
pub use Rattle.ca_apgcode.specs.Representation.{Step, IsStep, IsRepresentation, IsCode, five_cells, step_text, step_columns, IsStrip, gap_text, digit}
pub use Rattle.ca_apgcode.specs.Order.{Precedes, representation_cmp}
pub use Rattle.ca_apgcode.specs.Orientations.{turned, IsCopy, AreAmong}
pub use Rattle.ca_apgcode.specs.Objects.{IsObjectCode, IsTextOf, IsTurnedText, IsPhaseText, IsLeastOfPhases, code_text, IsLeastAmong, IsBoxRound, live, LiesWithin, kind_letter}

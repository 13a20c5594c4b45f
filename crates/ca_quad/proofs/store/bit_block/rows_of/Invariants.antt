use Rattle.std.proofs.Common.{◌≡◌, ℕ, ◌<◌, take}
use Rattle.ca_plane.specs.Prelude.{bit_cell, row_cells}
use Rattle.ca_quad.specs.inner.Filled.{cells_from}
use Rattle.ca_quad.proofs.store.bit_block.rows_of.Given as goal

-- the rows have the cells of the words so far
abbrev pub invariant-words : goal.invariant-words
invariant-words l = (x y : ℕ) → x < 64 → y < 64 → row_cells l.rows x y ≡ cells_from (bit_cell (take l.word-index l.words)) l.at x y

use Rattle.std.proofs.Common.{◌≡◌, ℕ, ◌⊎◌, ◌<◌, drop}
use Rattle.ca_plane.specs.Prelude.{cell}
use Rattle.ca_quad.specs.inner.Block.{IsCell, IsRight}
use Rattle.ca_quad.specs.inner.Filled.{cells_from}
use Rattle.ca_quad.specs.inner.Rows.{point_at, HaveRowAt}
use Rattle.ca_quad.proofs.store.block.block_states.Given as goal

-- the states are right, but for cells of the rows that are still to come
abbrev pub invariant-rows : goal.invariant-rows
invariant-rows l =
    ((x y : ℕ) → x < 32 → y < 32 → cells_from (cell l.cells) l.at x y ≡ 0 → IsRight l.cells l.at l.states x y)
    × ((i x y : ℕ) → HaveRowAt l.rows i → IsCell l.at (point_at l.cells i) x y → IsRight l.cells l.at l.states x y ⊎ HaveRowAt (drop l.row-index l.rows) i)

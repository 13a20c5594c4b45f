use Rattle.std.proofs.Common.{ℕ, ◌<◌, ◌≤◌}
use Rattle.ca_quad.specs.inner.Block.{IsCell, IsRight}
use Rattle.ca_quad.specs.inner.Rows.{point_at}
use Rattle.ca_quad.proofs.store.block.put_row.Given as goal

-- the cells so far are written, and no right one was lost
abbrev pub invariant-places : goal.invariant-places
invariant-places l =
    ((i x y : ℕ) → l.fn.row.first ≤ i → i < l.place → IsCell l.at (point_at l.cells i) x y → IsRight l.cells l.at l.states x y)
    × ((x y : ℕ) → x < 32 → y < 32 → IsRight l.cells l.at l.initial.states x y → IsRight l.cells l.at l.states x y)

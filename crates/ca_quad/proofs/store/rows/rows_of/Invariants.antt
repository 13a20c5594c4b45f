use Rattle.std.proofs.Common.{ℕ, length, ◌-◌, ◌<◌, ◌≤◌}
use Rattle.ca_quad.specs.inner.Rows.{AreRows, HaveRowAt}
use Rattle.ca_quad.proofs.store.rows.rows_of.Given as goal

-- the rows so far hold all places before the next one
abbrev pub invariant-rows : goal.invariant-rows
invariant-rows l = AreRows l.cells l.rows.items × (l.next ≤ length l.cells) × ((i : ℕ) → i < l.next → HaveRowAt l.rows.items i)

abbrev pub decreases-rows : goal.decreases-rows
decreases-rows l = length l.cells - l.next

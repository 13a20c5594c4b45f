use Rattle.std.specs.Prelude.{ℕ, ◌<◌, slice_index_or}
use Rattle.ca_quad.specs.inner.Ring.{IsEmptySquare}
use Rattle.ca_quad.proofs.store.Store.are_empty.Given as goal

abbrev pub invariant-squares : goal.invariant-squares
invariant-squares l = (i d : ℕ) → i < l.square-index → IsEmptySquare l.self (slice_index_or l.squares i d)

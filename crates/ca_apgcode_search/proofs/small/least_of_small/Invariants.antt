use Rattle.std.proofs.Common.{◌≡◌, ◌+◌, ℕ, List, Some}
use Rattle.std.specs.Prelude.{replicate}
use Rattle.ca_plane.specs.Prelude.{cells_after}
use Rattle.ca_bricks.specs.Prelude.{GoesBy}
use Rattle.ca_quad.specs.Prelude.{cell}
use Rattle.ca_apgcode.specs.Prelude.{IsBoxRound, IsLeastOfPhases}
use Rattle.ca_apgcode_search.specs.Countings.{HasTwoStates}
use Rattle.ca_apgcode_search.proofs.small.least_of_small.Given as goal

-- the box of the phase that is reached, and the least text of the phases up to it
abbrev pub invariant-phases : goal.invariant-phases
invariant-phases g l = record {
  found : (next : List ℕ → ℕ) → GoesBy next l.counting → next (replicate 9 0) ≡ 0 → HasTwoStates (cell l.fn.leaper.nodes l.tree)
      → IsBoxRound (cells_after next (cell l.fn.leaper.nodes l.tree) l.n) l.now × IsLeastOfPhases (cells_after next (cell l.fn.leaper.nodes l.tree)) (l.n + 1) (Some l.least.items);
}

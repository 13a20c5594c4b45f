use Rattle.std.proofs.Common.{◌≡◌, ℕ, ◌<◌, get_or, length}
use Rattle.std.specs.List.{All}
use Rattle.ca_quad.specs.Prelude.{cell}
use Rattle.ca_bricks.specs.declared.grid.BrickGrid.{BrickGrid}
use Rattle.ca_bricks.specs.Prelude.{dying_digit, GridShows}
use Rattle.ca_run.specs.inner.Frames.{IsFramed, IsOfFrame}
use Rattle.ca_run.proofs.bricks.aged.AgeingGridRule.grid_of.Given as goal

-- the planes of digits so far
abbrev pub invariant-digits : goal.invariant-digits
invariant-digits g l = record {
  size : length l.dying.items ≡ l.digit;
  of_frame : All (IsOfFrame l.frame) l.dying.items;
  shows : (m : ℕ) → IsFramed m l.frame (cell l.leaper.nodes l.tree) → (k : ℕ) (d : BrickGrid) → k < l.digit
      → GridShows (get_or l.dying.items k d) m (λ x y. dying_digit l.self.states k (cell l.leaper.nodes l.tree x y));
}

-- Grids of cells that age in a frame: their planes lie in the same place.
use Rattle.std.proofs.Common.{◌≡◌, ℕ, ◌+◌, ◌<◌, ◌≤◌, ◌^◌, Option, Some, IfSome, length, get_or, sym, subst, ◌∙◌}
use Rattle.std.specs.Prelude.{ℤ}
use Rattle.std.specs.List.{All}
use Rattle.std.proofs.lemmas.List.Elements.{All-weaker}
use Rattle.ca_plane.specs.Prelude.{liveness}
use Rattle.ca_bricks.specs.declared.{aged.AgedGrid.AgedGrid, grid.BrickGrid.BrickGrid}
use Rattle.ca_run.specs.declared.bricks.frame.Frame.{Frame}
use Rattle.ca_bricks.specs.Prelude.{AgedGridShows, IsBeside, dying_digit, GridShows}
use Rattle.ca_run.specs.inner.Frames.{IsFramed, IsOfFrame}

-- what holds of a grid where one is found holds of the one found
pub of_found : (P : BrickGrid → Type 0) (found : Option BrickGrid) (grid : BrickGrid) → found ≡ Some grid → IfSome found P → P grid
of_found P found grid e h = subst (λ o. IfSome o P) e h

-- two grids of a frame lie in the same place
beside_in_frame : (frame : Frame) (live digit : BrickGrid) → IsOfFrame frame live → IsOfFrame frame digit → IsBeside live digit
beside_in_frame frame live digit a b = record {
  place = record { x = b.x ∙ sym a.x; y = b.y ∙ sym a.y; across = b.across ∙ sym a.across; down = b.down ∙ sym a.down };
  size = b.size ∙ sym a.size;
}

-- grids of a frame that show the bits of a plane of `grid.states` states make one that shows it
pub framed_aged_grid : (grid : AgedGrid) (frame : Frame) (m : ℕ) (p : ℤ → ℤ → ℕ) → 2 ≤ grid.states → grid.states ≤ 256 → ((x y : ℤ) → p x y < grid.states)
    → grid.states < 2 + 2 ^ length grid.dying.items → IsOfFrame frame grid.live → All (IsOfFrame frame) grid.dying.items → IsFramed m frame p
    → GridShows grid.live m (λ x y. liveness (p x y))
    → ((k : ℕ) (d : BrickGrid) → k < length grid.dying.items → GridShows (get_or grid.dying.items k d) m (λ x y. dying_digit grid.states k (p x y)))
    → AgedGridShows grid m p
framed_aged_grid grid frame m p least most low enough live dying framed shows digits = record {
  least = least;
  most = most;
  low = low;
  enough = enough;
  beside = All-weaker (IsOfFrame frame) (IsBeside grid.live) (λ digit h. beside_in_frame frame grid.live digit live h) grid.dying.items dying;
  margin = rw (live.across, live.down, live.x, live.y) framed.margin;
  live = shows;
  dying = digits;
}

use Rattle.std.proofs.Common.{◌≡◌, ℕ, ◌<◌, length, get_or, []}
use Rattle.ca_bricks.specs.declared.grid.BrickGrid.{BrickGrid}
use Rattle.ca_bricks.specs.Prelude.{AreAlike, IsNextAged, IsSameAged, HasNeighbours, IsNotIn, IsNotAhead, QueueGrows}
use Rattle.ca_bricks.proofs.aged_step.step_by.Given as goal

-- bricks that aren't to come are one generation on, and those that aren't in the queue see and have what they did
abbrev pub invariant-bricks : goal.invariant-bricks
invariant-bricks g l = record {
  alike : AreAlike l.now l.old;
  next : (t : ℕ) → HasNeighbours l.now.live.across (length l.now.live.bricks.items) t → IsNotAhead l.awake l.s-index t → IsNextAged l.ageing l.now l.old t;
  same : (t : ℕ) → HasNeighbours l.now.live.across (length l.now.live.bricks.items) t → IsNotIn l.queue t → IsSameAged l.now.live.across l.fn.old l.old t;
  grows : QueueGrows l.now.live.across (length l.now.live.bricks.items) l.fn.queue l.queue;
  others : (t : ℕ) → (HasNeighbours l.now.live.across (length l.now.live.bricks.items) t → ⊥) → get_or l.old.live.bricks.items t [] ≡ get_or l.fn.old.live.bricks.items t [];
  other_digits : (k : ℕ) (d : BrickGrid) → k < length l.now.dying.items → (t : ℕ) → (HasNeighbours l.now.live.across (length l.now.live.bricks.items) t → ⊥)
      → get_or (get_or l.old.dying.items k d).bricks.items t [] ≡ get_or (get_or l.fn.old.dying.items k d).bricks.items t [];
}

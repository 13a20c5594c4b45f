use Rattle.std.proofs.Common.{ℕ, ◌<◌, length, get_or, []}
use Rattle.ca_bricks.specs.declared.grid.BrickGrid.{BrickGrid}
use Rattle.ca_bricks.specs.Prelude.{HasNeighbours, IsNotIn, IsBlank, IsBlankRound, QueueGrows}
use Rattle.ca_bricks.proofs.aged.AgedGrid.first_bricks.Given as goal

-- those that aren't in the queue see no live cell, and have no bit in the planes so far
abbrev pub invariant-digits : goal.invariant-digits
invariant-digits l = record {
  grows : QueueGrows l.self.live.across (length l.self.live.bricks.items) l.fn.queue l.queue;
  live : (t : ℕ) → HasNeighbours l.self.live.across (length l.self.live.bricks.items) t → IsNotIn l.queue t → IsBlankRound l.self.live.across l.self.live.bricks.items t;
  dying : (t : ℕ) → HasNeighbours l.self.live.across (length l.self.live.bricks.items) t → IsNotIn l.queue t → (j : ℕ) (d : BrickGrid) → j < l.k
      → IsBlank (get_or (get_or l.self.dying.items j d).bricks.items t []);
}

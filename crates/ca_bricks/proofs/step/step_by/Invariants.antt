use Rattle.std.proofs.Common.{◌≡◌, ℕ, length, get_or, []}
use Rattle.ca_bricks.specs.Prelude.{HasNeighbours, IsNotIn, IsNotAhead, QueueGrows, IsSameRound, IsNextBrick}
use Rattle.ca_bricks.specs.declared.cell_rule.CellRule.TheVariants.{ByCounting}
use Rattle.ca_bricks.proofs.step.step_by.Given as goal

-- bricks that aren't to come are one generation on, and those that aren't in the queue see what they saw
abbrev pub invariant-bricks : goal.invariant-bricks
invariant-bricks g l = record {
  next : (t : ℕ) → HasNeighbours l.across (length l.now) t → IsNotAhead l.awake l.s-index t → IsNextBrick (ByCounting l.fn.counting) l.across l.now l.old t;
  same : (t : ℕ) → HasNeighbours l.across (length l.now) t → IsNotIn l.queue t → IsSameRound l.across l.fn.old l.old t;
  grows : QueueGrows l.across (length l.now) l.fn.queue l.queue;
  others : (t : ℕ) → (HasNeighbours l.across (length l.now) t → ⊥) → get_or l.old t [] ≡ get_or l.fn.old t [];
  size : length l.old ≡ length l.now;
}

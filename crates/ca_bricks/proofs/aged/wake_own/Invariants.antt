use Rattle.std.proofs.Common.{ℕ, ◌<◌, length, get_or, []}
use Rattle.ca_bricks.specs.Prelude.{HasNeighbours, IsNotIn, IsBlank, QueueGrows}
use Rattle.ca_bricks.proofs.aged.wake_own.Given as goal

-- those of the bricks so far that aren't in the queue are blank
abbrev pub invariant-bricks : goal.invariant-bricks
invariant-bricks l = record {
  grows : QueueGrows l.across (length l.bricks) l.fn.queue l.queue;
  blank : (t : ℕ) → HasNeighbours l.across (length l.bricks) t → IsNotIn l.queue t → t < l.t → IsBlank (get_or l.bricks t []);
}

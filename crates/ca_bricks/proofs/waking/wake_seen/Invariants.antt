use Rattle.std.proofs.Common.{ℕ, ◌<◌, length, get_or, []}
use Rattle.std.specs.Prelude.{replicate}
use Rattle.ca_bricks.specs.Prelude.{HasNeighbours, IsNotIn, IsUnseen, QueueGrows}
use Rattle.ca_bricks.proofs.waking.wake_seen.Given as goal

-- a brick that isn't in the queue sees nothing of the bricks so far
abbrev pub invariant-bricks : goal.invariant-bricks
invariant-bricks l = record {
  grows : QueueGrows l.across (length l.bricks) l.fn.queue l.queue;
  unseen : (t : ℕ) → HasNeighbours l.across (length l.bricks) t → IsNotIn l.queue t → (s : ℕ) → l.across < s → s < l.t
      → IsUnseen l.across s (replicate 16 0) (get_or l.bricks s []) t;
}

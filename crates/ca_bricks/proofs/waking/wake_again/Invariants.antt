use Rattle.std.proofs.Common.{◌≡◌, ℕ, ◌<◌, slice_index}
use Rattle.ca_bricks.specs.Prelude.{HasNeighbours, IsNotIn, QueueGrows}
use Rattle.ca_bricks.proofs.waking.wake_again.Given as goal

-- the bricks so far are in the queue
abbrev pub invariant-bricks : goal.invariant-bricks
invariant-bricks l = record {
  grows : QueueGrows l.across l.count l.fn.queue l.queue;
  woken : (t : ℕ) → HasNeighbours l.across l.count t → IsNotIn l.queue t → (k : ℕ) → k < l.t-index → slice_index l.list k ≡ t → ⊥;
}

-- What is gone from `unsent` was appended, and nothing failed.
use Rattle.std.proofs.Common.{◌≡◌, ℕ, List, ◌++◌, length}
use Rattle.std.specs.Io.KnownBytes.{Appends}
use Rattle.ca_plane.proofs.sending.send.Given as goal

abbrev pub invariant-pieces : goal.invariant-pieces
invariant-pieces g l =
    (sent : List ℕ) × (l.fn.bytes ≡ sent ++ l.unsent) × Appends (g.W.Write.contents l.fn.device.inner) (g.W.Write.contents l.device.inner) sent × (l.device.failures ≡ l.fn.device.failures)

abbrev pub decreases-pieces : goal.decreases-pieces
decreases-pieces g l = length l.unsent

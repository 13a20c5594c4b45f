-- An empty plane stays empty, so a plane that is live after some generations was live after fewer.
use Rattle.std.proofs.Common.{ℕ, zero, suc, ◌≤◌, ◌<◌, List, arith}
use Rattle.ca_plane.specs.Prelude.{Picture, IsLive, IsLiveAfter}

-- a live pattern that is live after each number of generations from 1 to n is live after n
pub live_at_last : (next : List ℕ → ℕ) (cells : Picture) (n : ℕ) → IsLive cells → ((m : ℕ) → 1 ≤ m → m < suc n → IsLiveAfter next cells m) → IsLiveAfter next cells n
live_at_last next cells zero live all = live
live_at_last next cells (suc n) live all = all (suc n) (omega arith) (omega arith)

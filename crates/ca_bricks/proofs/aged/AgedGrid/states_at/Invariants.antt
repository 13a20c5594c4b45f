use Rattle.std.proofs.Common.{◌≡◌, ℕ, ◌+◌, ◌*◌, ◌/◌, ◌<◌, ◌^◌, slice_index}
use Rattle.std.specs.Prelude.{ℤ, pos, ◌+ℤ◌}
use Rattle.ca_bricks.specs.Prelude.{AgedGridShows, remaining, eight}
use Rattle.ca_bricks.proofs.aged.AgedGrid.states_at.Given as goal

-- the numbers by the digits so far, from the highest
abbrev pub invariant-digits : goal.invariant-digits
invariant-digits l = (m : ℕ) (p : ℤ → ℤ → ℕ) → AgedGridShows l.self m p → (x y : ℕ) → x < 8 → y < 8
    → slice_index l.numbers (8 * y + x) ≡ remaining l.self.states (p ((l.self.live.x +ℤ eight l.at.i) +ℤ pos x) ((l.self.live.y +ℤ eight l.at.j) +ℤ pos y)) / 2 ^ l.k

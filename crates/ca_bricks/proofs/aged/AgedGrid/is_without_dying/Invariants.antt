use Rattle.std.proofs.Common.{◌≡◌, ℕ, ◌<◌}
use Rattle.std.specs.Prelude.{ℤ, pos, ◌+ℤ◌}
use Rattle.ca_bricks.specs.Prelude.{AgedGridShows, dying_digit, eight}
use Rattle.ca_bricks.proofs.aged.AgedGrid.is_without_dying.Given as goal

-- no plane of digits so far has a bit in the word
abbrev pub invariant-digits : goal.invariant-digits
invariant-digits l = (m : ℕ) (p : ℤ → ℤ → ℕ) → AgedGridShows l.self m p → (k : ℕ) → k < l.digit-index → (x y : ℕ) → x < 8 → y < 8
    → dying_digit l.self.states k (p ((l.self.live.x +ℤ eight l.at.i) +ℤ pos x) ((l.self.live.y +ℤ eight l.at.j) +ℤ pos y)) ≡ 0

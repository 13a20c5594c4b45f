use Rattle.std.proofs.Common.{◌≡◌, ℕ, ◌*◌, ◌<◌, ◌≤◌}
use Rattle.std.specs.Prelude.{ℤ, pos, ◌+ℤ◌}
use Rattle.ca_bricks.specs.Prelude.{AgedGridShows, dying_digit}
use Rattle.ca_run.proofs.leaper.from_aged_grid.AgedGridSquareGrid.is_blank_between.Given as goal

-- no plane of digits so far has a bit there
abbrev pub invariant-digits : goal.invariant-digits
invariant-digits l = (m : ℕ) (p : ℤ → ℤ → ℕ) → AgedGridShows l.self m p → (k : ℕ) → k < l.digit-index
    → (x y : ℕ) → 8 * l.i.0 ≤ x → x < 8 * l.i.1 → 8 * l.j.0 ≤ y → y < 8 * l.j.1
    → dying_digit l.self.states k (p (l.self.live.x +ℤ pos x) (l.self.live.y +ℤ pos y)) ≡ 0

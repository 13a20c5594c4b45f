use Rattle.std.proofs.Common.{◌≡◌, ℕ, ◌<◌, ◌^◌}
use Rattle.std.specs.Prelude.{ℤ, pos, ◌+ℤ◌}
use Rattle.std.specs.Int.{bit_at}
use Rattle.ca_run.specs.inner.Shown.{ShowsAt}
use Rattle.ca_run.specs.inner.AgedPlanes.{aged_bit}
use Rattle.ca_run.proofs.leaper.Leaper.aged_row.Given as goal

-- the bits so far
abbrev pub invariant-cells : goal.invariant-cells
invariant-cells g l = record {
  low : l.row < 2 ^ l.x;
  bits : (p : ℤ → ℤ → ℕ) (a b : ℤ) → ShowsAt l.self.nodes l.id 3 p a b → (x : ℕ) → x < l.x → bit_at l.row x ≡ aged_bit l.plane (p (a +ℤ pos x) (b +ℤ pos l.y));
}

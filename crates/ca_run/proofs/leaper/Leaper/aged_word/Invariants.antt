use Rattle.std.proofs.Common.{◌≡◌, ℕ, ◌+◌, ◌*◌, ◌<◌, ◌^◌}
use Rattle.std.specs.Prelude.{ℤ, pos, ◌+ℤ◌}
use Rattle.std.specs.Int.{bit_at}
use Rattle.ca_run.specs.inner.Shown.{ShowsAt}
use Rattle.ca_run.specs.inner.AgedPlanes.{aged_bit}
use Rattle.ca_run.proofs.leaper.Leaper.aged_word.Given as goal

-- the rows so far
abbrev pub invariant-rows : goal.invariant-rows
invariant-rows g l = record {
  low : l.word < 2 ^ (8 * l.y);
  bits : (p : ℤ → ℤ → ℕ) (a b : ℤ) → ShowsAt l.self.nodes l.id 3 p a b
      → (x v : ℕ) → x < 8 → v < l.y → bit_at l.word (8 * v + x) ≡ aged_bit l.plane (p (a +ℤ pos x) (b +ℤ pos v));
}

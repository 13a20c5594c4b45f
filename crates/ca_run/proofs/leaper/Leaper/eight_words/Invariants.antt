use Rattle.std.proofs.Common.{◌≡◌, ℕ, ◌*◌, ◌<◌, length, slice_index}
use Rattle.std.specs.Prelude.{ℤ, pos, ◌+ℤ◌}
use Rattle.ca_run.specs.inner.Shown.{ShowsAt}
use Rattle.ca_bricks.specs.Prelude.{WordShows}
use Rattle.ca_run.proofs.leaper.Leaper.eight_words.Given as goal

-- the words so far
abbrev pub invariant-words : goal.invariant-words
invariant-words g l = record {
  size : length l.words ≡ 8;
  shown : (p : ℤ → ℤ → ℕ) (a b : ℤ) → ShowsAt l.self.nodes l.piece 6 p a b
      → (m : ℕ) → m < l.k → WordShows (slice_index l.words m) (λ x y. g.P.StatePlane.bit_of l.plane (p x y)) (a +ℤ pos (8 * m)) (b +ℤ pos (8 * l.row));
}

use Rattle.std.proofs.Common.{◌≡◌, ◌<◌, ℕ, length, slice_index}
use Rattle.std.specs.Int.{bit_at}
use Rattle.ca_bricks.proofs.word.mask_words.Given as goal

-- the words so far have the bits of the mask
abbrev pub invariant-numbers : goal.invariant-numbers
invariant-numbers l = record {
  words : (n x : ℕ) → n < l.n → x < 64 → bit_at (slice_index l.words n) x ≡ bit_at l.mask n;
  size : length l.words ≡ 9;
}

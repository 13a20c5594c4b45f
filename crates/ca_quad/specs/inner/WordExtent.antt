-- The ends of a word, and the columns of its cells that have a live one.
use Rattle.std.specs.Prelude.{◌≡◌, ℕ, ◌+◌, ◌*◌, ◌<◌, ◌≤◌}
use Rattle.std.specs.Int.{bit_at}
use Rattle.ca_quad.specs.declared.store.word_extent.BitEnds.{BitEnds}

-- the lowest and the highest bit of a word that are 1
pub record AreEnds (word : ℕ) (ends : BitEnds) : Type 0 where
  pub first : bit_at word ends.first ≡ 1
  pub last : bit_at word ends.last ≡ 1
  pub within : (i : ℕ) → bit_at word i ≡ 1 → (ends.first ≤ i) × (i ≤ ends.last)
  pub low : ends.last < 64

-- a column's bit is 1 just where a cell in it is live
pub record AreColumns (word columns : ℕ) : Type 0 where
  pub all : (x y : ℕ) → x < 8 → y < 8 → bit_at word (8 * y + x) ≡ 1 → bit_at columns x ≡ 1
  pub only : (x : ℕ) → bit_at columns x ≡ 1 → (x < 8) × ((y : ℕ) × (y < 8) × (bit_at word (8 * y + x) ≡ 1))

-- Words that show a plane from some place onwards (our own). A word holds 8 by 8 cells of two states.
use Rattle.std.specs.Prelude.{ℕ, ◌*◌, ◌/◌, ◌%◌, ◌^◌, ℤ, ◌+ℤ◌}
use Rattle.ca_plane.specs.Prelude.{ShowsPlane, word_cells}

-- the word shows the plane from (a, b) onwards
pub record WordShows (word : ℕ) (p : ℤ → ℤ → ℕ) (a b : ℤ) : Type 0 where
  pub looks : ShowsPlane 8 (word_cells word) p a b

-- the byte of a word at a place, the lowest at place 0: a row of its cells
abbrev pub byte_of : ℕ → ℕ → ℕ
byte_of word place = word / 2 ^ (8 * place) % 256

-- eight cells for each word
abbrev pub eight : ℤ → ℤ
eight i = i +ℤ i +ℤ i +ℤ i +ℤ i +ℤ i +ℤ i +ℤ i

-- Four squares that are named by their cells, and the number of the square that they make.
use Rattle.std.specs.Prelude.{◌≡◌, ℕ, ◌<◌, ◌+◌, ◌*◌, ◌^◌}
use Rattle.ca_quad.specs.Squares.{digit, cells2, cells4}

-- four 2 by 2 squares are the parts of the 4 by 4 square of this number
pub record AreCells2 (nw ne sw se n : ℕ) : Type 0 where
  pub low : n < 65536
  pub is_nw : cells2 (digit 16 n 0) ≡ nw
  pub is_ne : cells2 (digit 16 n 1) ≡ ne
  pub is_sw : cells2 (digit 16 n 2) ≡ sw
  pub is_se : cells2 (digit 16 n 3) ≡ se

-- four 4 by 4 squares are the parts of the 8 by 8 square of this number
pub record AreCells4 (nw ne sw se n : ℕ) : Type 0 where
  pub low : n < 2 ^ 64
  pub is_nw : cells4 (digit 65536 n 0) ≡ nw
  pub is_ne : cells4 (digit 65536 n 1) ≡ ne
  pub is_sw : cells4 (digit 65536 n 2) ≡ sw
  pub is_se : cells4 (digit 65536 n 3) ≡ se

-- the numbers of four squares as digits of base 2 ^ 32, the first lowest
abbrev pub four_numbers : ℕ → ℕ → ℕ → ℕ → ℕ
four_numbers nw ne sw se = nw + 4294967296 * ne + 18446744073709551616 * sw + 79228162514264337593543950336 * se

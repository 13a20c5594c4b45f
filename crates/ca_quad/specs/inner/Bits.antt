-- Where a block keeps its cells, and how the order of bits is changed.
use Rattle.std.specs.Prelude.{ℕ, zero, suc, ◌+◌, ◌-◌, ◌*◌, ◌^◌, ◌==◌, if◌then◌else◌}
use Rattle.std.specs.Int.{bit_at}
use Rattle.ca_quad.specs.Squares.{joined_cells}

-- the bit at which a square of two states keeps the cell (x, y): those of its north-western quarter come first, and so on in each quarter
abbrev pub place : ℕ → ℕ → ℕ → ℕ
place zero = λ x y. 0
place (suc k) = joined_cells (2 ^ k) (place k) (λ x y. 4 ^ k + place k x y) (λ x y. 2 * 4 ^ k + place k x y) (λ x y. 3 * 4 ^ k + place k x y)

-- the bit that comes to a place where each of the low bits changes places with the one that is so far above it
abbrev pub exchanged_bit : ℕ → ℕ → ℕ → ℕ
exchanged_bit low way i = if bit_at low i == 1 then i + way else (if bit_at (low * 2 ^ way) i == 1 then i - way else i)

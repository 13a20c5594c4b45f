-- Squares of two states whose cells are the binary digits of one number.
use Rattle.std.specs.Prelude.{◌≡◌, ◌≢◌, ℕ, ◌+◌, ◌*◌, ◌<◌, ◌^◌, ◌⊎◌, List, length}
use Rattle.ca_quad.specs.declared.named.IdForm.TheVariants.{Cells2, Kept}
use Rattle.ca_quad.specs.declared.node.Node.{Node}
use Rattle.ca_quad.specs.declared.node.Node.TheVariants.{Block}
use Rattle.ca_quad.specs.{Squares.meaning_of_id, Squares.node_square, Squares.shown_cells4, Squares.square_named, Squares.square_of, Sound.node_at}

-- the number tells the cells of the square, which are 2 by 2, 4 by 4 or 8 by 8
abbrev pub IsNumberOfNode : List Node → ℕ → ℕ → Type 0
IsNumberOfNode nodes id n =
    ((n < 16) × (square_of nodes id ≡ square_named nodes (Cells2 n)))
    ⊎ (((n < 65536) × (square_of nodes id ≡ shown_cells4 n)) ⊎ ((n < 2 ^ 64) × (square_of nodes id ≡ node_square (Block n))))

-- the square is kept, and not as a block
abbrev pub IsKeptOtherwise : List Node → ℕ → Type 0
IsKeptOtherwise nodes id = (place : ℕ) × (place < length nodes) × (meaning_of_id id ≡ Kept place) × ((n : ℕ) → node_at nodes place ≢ Block n)

-- the four are the digits of a number, of k binary digits each, the lowest first
pub record AreFourDigits (k n a b c d : ℕ) : Type 0 where
  pub first : a < 2 ^ k
  pub second : b < 2 ^ k
  pub third : c < 2 ^ k
  pub is : n ≡ ((d * 2 ^ k + c) * 2 ^ k + b) * 2 ^ k + a

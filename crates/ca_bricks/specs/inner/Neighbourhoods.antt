-- The neighbourhoods of nine cells, each of them dead or live, by number.
use Rattle.std.specs.Prelude.{◌≡◌, ℕ, ◌<◌, ◌/◌, ◌%◌, List, [], ◌∷◌, slice_index}

-- the one with this number: its binary digits, the lowest that of the centre, the highest those of the cells that share a side with it
abbrev pub neighbourhood : ℕ → List ℕ
neighbourhood n =
    n / 16 % 2 ∷ n / 256 % 2 ∷ n / 8 % 2
    ∷ n / 64 % 2 ∷ n / 1 % 2 ∷ n / 32 % 2
    ∷ n / 4 % 2 ∷ n / 128 % 2 ∷ n / 2 % 2 ∷ []

-- the states are the next ones of each, by number
abbrev pub AreNextStates : (List ℕ → ℕ) → List ℕ → Type 0
AreNextStates next states = (n : ℕ) → n < 512 → slice_index states n ≡ next (neighbourhood n)

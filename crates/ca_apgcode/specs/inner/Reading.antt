-- The step at the front of some bytes.
use Rattle.std.specs.Prelude.{ℕ, ◌+◌, ◌-◌, nat_le, nat_lt, ◌==◌, ◌&&◌, if◌then◌else◌, List, [], ◌∷◌, Option, Some, None, option_map, option_and_then}
use Rattle.ca_apgcode.specs.Representation.{Step}

-- the number of a digit
abbrev pub digit_value : ℕ → Option ℕ
digit_value b = if nat_le 48 b && nat_le b 57 then Some (b - 48) else (if nat_le 97 b && nat_le b 122 then Some (b - 87) else None)

-- how many columns without cells are written by a `y` and what follows it, and what follows that
abbrev pub long_gap_at : List ℕ → Option (ℕ × List ℕ)
long_gap_at [] = None
long_gap_at (b ∷ bs) = option_map (λ n. (n + 4, bs)) (digit_value b)

-- how many columns without cells are written at the front, and what follows them
abbrev pub gap_at : List ℕ → Option (ℕ × List ℕ)
gap_at [] = None
gap_at (b ∷ bs) =
    if b == 48 then Some (1, bs)
    else (if b == 119 then Some (2, bs) else (if b == 120 then Some (3, bs) else (if b == 121 then long_gap_at bs else Some (0, b ∷ bs))))

-- the step that ends with a column of this number
abbrev pub step_of : ℕ → ℕ → Option Step
step_of gap column = if nat_lt 0 column && nat_lt column 32 then Some (record { gap = gap; column = column }) else None

-- the step that ends with the column at the front, and what follows it
abbrev pub column_at : ℕ → List ℕ → Option (Step × List ℕ)
column_at gap [] = None
column_at gap (b ∷ bs) = option_map (λ s. (s, bs)) (option_and_then (step_of gap) (digit_value b))

-- the step at the front, and what follows it
abbrev pub step_at : List ℕ → Option (Step × List ℕ)
step_at bytes = option_and_then (λ g. column_at g.0 g.1) (gap_at bytes)

-- The rule files that are written: the head, and a transition for each neighbourhood of dead and live cells whose centre changes. A
-- file without variables is for two states.
use Rattle.std.specs.Prelude.{ℕ, ◌+◌, ◌/◌, ◌%◌, List, [], ◌∷◌, ◌++◌, map, filter, Bool, not, ◌==◌, slice_index, codes, decimal, if◌then◌else◌}
use Rattle.std.specs.List.{range_with_len}

-- the lines before the variables and the transitions
abbrev pub head_lines : List ℕ → ℕ → List (List ℕ)
head_lines name states =
    (codes "@RULE " ++ name) ∷ codes "@TABLE" ∷ (codes "n_states:" ++ decimal states) ∷ codes "neighborhood:Moore" ∷ codes "symmetries:none" ∷ []

-- the eight neighbours among nine cells, in the order of a transition's inputs
abbrev pub ring_of : List ℕ → List ℕ
ring_of nine = map (slice_index nine) (1 ∷ 2 ∷ 5 ∷ 8 ∷ 7 ∷ 6 ∷ 3 ∷ 0 ∷ [])

-- the digit of a neighbour, or instead of 0, in a file with variables, this letter of one
abbrev pub neighbour_byte : Bool → ℕ → ℕ → ℕ
neighbour_byte variables letter cell = if cell == 0 then (if variables then letter else 48) else 49

-- the bytes of neighbours, with the letters from this one onwards, each with a comma behind it
abbrev pub neighbour_bytes : Bool → ℕ → List ℕ → List ℕ
neighbour_bytes variables letter [] = []
neighbour_bytes variables letter (c ∷ cs) = neighbour_byte variables letter c ∷ 44 ∷ neighbour_bytes variables (letter + 1) cs

-- the line of the transition of nine dead and live cells
abbrev pub transition_line : Bool → List ℕ → ℕ → List ℕ
transition_line variables nine result = decimal (slice_index nine 4) ++ 44 ∷ (neighbour_bytes variables 97 (ring_of nine) ++ decimal result)

-- the neighbourhood with this number: its binary digits
abbrev pub neighbourhood : ℕ → List ℕ
neighbourhood n = map (λ weight. n / weight % 2) (256 ∷ 128 ∷ 64 ∷ 32 ∷ 16 ∷ 8 ∷ 4 ∷ 2 ∷ 1 ∷ [])

-- the first neighbourhoods
unfoldable pub neighbourhoods : ℕ → List (List ℕ)
neighbourhoods count = map neighbourhood (range_with_len 0 count)

-- the centre changes
abbrev pub changes : (List ℕ → ℕ) → List ℕ → Bool
changes next nine = not (next nine == slice_index nine 4)

-- the lines of the first neighbourhoods whose centres change, each with its centre's next state
abbrev pub transition_lines : Bool → (List ℕ → ℕ) → ℕ → List (List ℕ)
transition_lines variables next count = map (λ nine. transition_line variables nine (next nine)) (filter (changes next) (neighbourhoods count))

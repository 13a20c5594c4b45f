-- What the rule files of Generations rules have besides: the variables, and a transition for each dying state.
use Rattle.std.specs.Prelude.{ℕ, ◌+◌, ◌-◌, List, [], ◌∷◌, ◌++◌, map, nat_lt, codes, decimal, if◌then◌else◌}
use Rattle.std.specs.List.{flat_map, range_with_len}
use Rattle.ca_plane.specs.Prelude.{older}

-- some states, each with a comma behind it
abbrev pub listed_states : ℕ → ℕ → List ℕ
listed_states from count = flat_map (λ state. decimal state ++ 44 ∷ []) (range_with_len from count)

-- The first eight variables are neighbours that aren't live, which have every state but 1, and the last eight are any neighbours.
-- A variable's smallest state besides 0
abbrev pub least_of : ℕ → ℕ
least_of variable = if nat_lt variable 8 then 2 else 1

-- the line of a variable: its letter, and its states from the smallest onwards, and 0
abbrev pub variable_line : ℕ → ℕ → List ℕ
variable_line states variable = codes "var " ++ (97 + variable) ∷ (codes "={" ++ (listed_states (least_of variable) (states - least_of variable) ++ codes "0}"))

-- the lines of the first variables
abbrev pub variable_lines : ℕ → ℕ → List (List ℕ)
variable_lines states count = map (variable_line states) (range_with_len 0 count)

-- the line of the transition of a dying state
abbrev pub dying_line : ℕ → ℕ → List ℕ
dying_line states state = decimal state ++ (codes ",i,j,k,l,m,n,o,p," ++ decimal (older states state))

-- the lines of the transitions of the first dying states
abbrev pub dying_lines : ℕ → ℕ → List (List ℕ)
dying_lines states count = map (dying_line states) (range_with_len 2 count)

-- Counts of live neighbours, as the digits of a B/S rule give them, and which neighbours are counted (Golly Help, QuickLife).
use Rattle.std.specs.Prelude.{ℕ, ◌+◌, List, [], ◌∷◌, Bool, false, map, ◌==◌, ◌&&◌, nat_le, slice_index_or, ◌||◌, not, IsTrue}
use Rattle.std.specs.List.{list_any, list_all}
use Rattle.ca_plane.specs.Prelude.{letter}
use Rattle.ca_rule.specs.declared.{counts.Counts.Counts, hood.Hood.Hood}
use Rattle.ca_rule.specs.declared.hood.Hood.TheVariants.{Moore, VonNeumann, Hex}

-- how many neighbours are counted: all eight, the four that share a side, or six of them
abbrev pub most_of : Hood → ℕ
most_of Moore = 8
most_of VonNeumann = 4
most_of Hex = 6

-- whether n is one of the counts
abbrev pub is_count : Counts → ℕ → Bool
is_count counts n = slice_index_or counts.holds n false

-- the digits hold the digit of n
abbrev pub has_digit : List ℕ → ℕ → Bool
has_digit digits n = list_any (λ d. d == letter "0" + n) digits

-- the counts from 0 to 8 whose digits these are
abbrev pub counts_of : List ℕ → Counts
counts_of digits = record { holds = map (has_digit digits) (0 ∷ 1 ∷ 2 ∷ 3 ∷ 4 ∷ 5 ∷ 6 ∷ 7 ∷ 8 ∷ []) }

-- digits from `0` to that of the greatest count, in any order, each as often as one likes, or none
abbrev pub are_digits_up_to : ℕ → List ℕ → Bool
are_digits_up_to most digits = list_all (λ d. nat_le (letter "0") d && nat_le d (letter "0" + most)) digits

-- no count is above the greatest
abbrev pub FitsHood : Counts → Hood → Type 0
FitsHood counts hood = IsTrue (list_all (λ n. nat_le n (most_of hood) || not (is_count counts n)) (0 ∷ 1 ∷ 2 ∷ 3 ∷ 4 ∷ 5 ∷ 6 ∷ 7 ∷ 8 ∷ []))

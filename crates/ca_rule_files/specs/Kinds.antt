-- The 51 kinds of neighbourhoods of Hensel's notation: a number of live neighbours, and where it is 1 to 7 a letter (Golly
-- Help, QuickLife: non-totalistic rules; LifeWiki, "Isotropic non-totalistic rule").
use Rattle.std.specs.Prelude.{ℕ, ◌-◌, List, [], ◌∷◌, ◌++◌, Bool, ◌==◌, nat_le, map, filter, ◌||◌, find, Option, option_map, slice_index, codes, if◌then◌else◌}
use Rattle.std.specs.List.{list_any}
use Rattle.std.specs.Str.{bytes_eq}
use Prim.Native.String.{String}
use Rattle.ca_plane.specs.Prelude.{letter}
use Rattle.ca_rule.specs.declared.hood.Hood.TheVariants.{Moore}
use Rattle.ca_rule.specs.Prelude.{neighbour_count}
use Rattle.ca_rule_files.specs.declared.kinds.Kind.{Kind}

-- the cells of a picture: `O` is a live one
abbrev pub cells : List ℕ → List ℕ
cells picture = map (λ b. if b == letter "O" then 1 else 0) picture

-- a kind by its letter and one of its neighbourhoods, in three rows from the north; the centre doesn't count
abbrev pub kind : String → String → String → String → Kind
kind name north middle south = record { letter = letter name; example = cells (codes north ++ (codes middle ++ codes south)) }

-- the kinds with one live neighbour
abbrev pub kinds_of_one : List Kind
kinds_of_one =
    kind "c" "..." "..." "..O"
    ∷ kind "e" "..." "..." ".O."
    ∷ []

-- with two
abbrev pub kinds_of_two : List Kind
kinds_of_two =
    kind "c" "..." "..." "O.O"
    ∷ kind "e" "..." "..O" ".O."
    ∷ kind "a" "..." "..." ".OO"
    ∷ kind "i" "..." "O.O" "..."
    ∷ kind "k" "..." "O.." "..O"
    ∷ kind "n" "..O" "..." "O.."
    ∷ []

-- with three
abbrev pub kinds_of_three : List Kind
kinds_of_three =
    kind "c" "..O" "..." "O.O"
    ∷ kind "e" "..." "O.O" ".O."
    ∷ kind "a" "..." "..O" ".OO"
    ∷ kind "i" "..." "..." "OOO"
    ∷ kind "k" "..O" "O.." ".O."
    ∷ kind "n" "..." "..O" "O.O"
    ∷ kind "j" "..." "..O" "OO."
    ∷ kind "q" "..O" "..." "OO."
    ∷ kind "r" "..." "O.O" "..O"
    ∷ kind "y" "..O" "O.." "..O"
    ∷ []

-- with four
abbrev pub kinds_of_four : List Kind
kinds_of_four =
    kind "c" "O.O" "..." "O.O"
    ∷ kind "e" ".O." "O.O" ".O."
    ∷ kind "a" "..." "..O" "OOO"
    ∷ kind "i" "..." "O.O" "O.O"
    ∷ kind "k" "..O" "O.." ".OO"
    ∷ kind "n" "..O" "..." "OOO"
    ∷ kind "j" "..O" "O.O" ".O."
    ∷ kind "q" "..O" "O.." "OO."
    ∷ kind "r" "..." "O.O" ".OO"
    ∷ kind "y" "..O" "O.." "O.O"
    ∷ kind "t" "..O" "O.O" "..O"
    ∷ kind "w" "..O" "..O" "OO."
    ∷ kind "z" "..O" "O.O" "O.."
    ∷ []

-- the kinds with this many live neighbours, up to four; with none there is one neighbourhood, which has no letter
abbrev pub kinds_with : ℕ → List Kind
kinds_with count =
    if count == 1 then kinds_of_one
    else (if count == 2 then kinds_of_two else (if count == 3 then kinds_of_three else (if count == 4 then kinds_of_four else [])))

-- nine cells after a quarter turn clockwise: the west side becomes the north side
abbrev pub turned : List ℕ → List ℕ
turned nine = map (slice_index nine) (6 ∷ 3 ∷ 0 ∷ 7 ∷ 4 ∷ 1 ∷ 8 ∷ 5 ∷ 2 ∷ [])

-- nine cells with east and west exchanged
abbrev pub mirrored : List ℕ → List ℕ
mirrored nine = map (slice_index nine) (2 ∷ 1 ∷ 0 ∷ 5 ∷ 4 ∷ 3 ∷ 8 ∷ 7 ∷ 6 ∷ [])

-- the four turns of nine cells
abbrev pub turns : List ℕ → List (List ℕ)
turns nine = nine ∷ turned nine ∷ turned (turned nine) ∷ turned (turned (turned nine)) ∷ []

-- all turns and reflections
abbrev pub orientations : List ℕ → List (List ℕ)
orientations nine = turns nine ++ turns (mirrored nine)

-- the eight cells round the centre
abbrev pub neighbours : List ℕ → List ℕ
neighbours nine = map (slice_index nine) (0 ∷ 1 ∷ 2 ∷ 3 ∷ 5 ∷ 6 ∷ 7 ∷ 8 ∷ [])

-- the neighbourhood is of the kind: it is a turn or a reflection of the kind's example
abbrev pub is_of_kind : List ℕ → Kind → Bool
is_of_kind nine kind = list_any (λ oriented. bytes_eq (neighbours oriented) (neighbours nine)) (orientations kind.example)

-- how many neighbours are live
abbrev pub live_neighbours : List ℕ → ℕ
live_neighbours nine = neighbour_count Moore nine

-- nine cells with live and dead ones exchanged
abbrev pub exchanged : List ℕ → List ℕ
exchanged nine = map (λ place. if slice_index nine place == 0 then 1 else 0) (0 ∷ 1 ∷ 2 ∷ 3 ∷ 4 ∷ 5 ∷ 6 ∷ 7 ∷ 8 ∷ [])

-- the letter of the kind among these that the neighbourhood is of
abbrev pub letter_among : List Kind → List ℕ → Option ℕ
letter_among kinds nine = option_map (λ (k : Kind). k.letter) (find (is_of_kind nine) kinds)

-- the letter of a neighbourhood. One with 5, 6 or 7 live neighbours has the letter of the one with live and dead ones
-- exchanged; those with 0 and 8 have none
abbrev pub letter_of : List ℕ → Option ℕ
letter_of nine =
    if nat_le (live_neighbours nine) 4 then letter_among (kinds_with (live_neighbours nine)) nine
    else letter_among (kinds_with (8 - live_neighbours nine)) (exchanged nine)

-- the kinds, among those with its number of live neighbours, that a neighbourhood is of
abbrev pub kinds_of : List ℕ → List Kind
kinds_of nine =
    if nat_le (live_neighbours nine) 4 then filter (is_of_kind nine) (kinds_with (live_neighbours nine))
    else filter (is_of_kind (exchanged nine)) (kinds_with (8 - live_neighbours nine))

-- with no live neighbours there is one neighbourhood, and with eight: their kinds have no letters
abbrev pub has_no_letter : List ℕ → Bool
has_no_letter nine = (live_neighbours nine == 0) || (live_neighbours nine == 8)

-- Small rule tables, and cells under them and under other rules, for the worked examples.
use Rattle.std.specs.Prelude.{◌≡◌, ℕ, ◌-◌, List, [], ◌∷◌, ◌++◌, map, codes}
use Rattle.ca_rule.specs.declared.{table.neighbourhood.Neighbourhood.Neighbourhood, table.neighbourhood.Symmetry.Symmetry, table.slot.Slot.Slot, hood.Hood.Hood}
use Rattle.ca_rule.specs.declared.table.neighbourhood.Neighbourhood.TheVariants.{VonNeumann}
use Rattle.ca_rule.specs.declared.table.neighbourhood.Symmetry.TheVariants.{Identity}
use Rattle.ca_rule.specs.declared.table.slot.Slot.TheVariants.{Number, Variable}
use Rattle.ca_plane.specs.Prelude.{text_of, words_of}
use Rattle.ca_rule.specs.{Counts.counts_of, TableNext.Transition, TableNext.TableRule, TableNext.table_next, TableOrders.orders}
use Rattle.ca_rule.specs.Next as bs
use Rattle.ca_rule.specs.Generations as generations

-- numbers below ten, as digits
abbrev pub digits : List ℕ → List ℕ
digits text = map (λ b. b - 48) text

-- lists of digits with blanks between them
abbrev pub digit_lists : List ℕ → List (List ℕ)
digit_lists text = map digits (words_of text)

-- the orders of the symmetry are those that the text lists
abbrev pub HasOrders : Neighbourhood → Symmetry → List ℕ → Type 0
HasOrders of under text = orders of under ≡ digit_lists text

-- the next cell under a B/S rule of these birth and survival digits
abbrev pub bs_cell : Hood → List ℕ → List ℕ → List ℕ → ℕ
bs_cell hood birth survival nine = bs.bs_next hood (counts_of birth) (counts_of survival) (digits nine)

-- and under a Generations rule of these survival and birth digits, and this many states
abbrev pub generations_cell : List ℕ → List ℕ → ℕ → List ℕ → ℕ
generations_cell survival birth states nine = generations.generations_next (counts_of survival) (counts_of birth) states (digits nine)

-- a table of three states with `var a={1,2}`, `var b={0,1,2}` and these transitions
abbrev pub table_of : Neighbourhood → Symmetry → List Transition → TableRule
table_of of under lines = record {
  name = codes "Spread";
  states = 3;
  neighbourhood = of;
  symmetry = under;
  variables = (1 ∷ 2 ∷ []) ∷ (0 ∷ 1 ∷ 2 ∷ []) ∷ [];
  transitions = lines;
}

-- the next cells under such a table, each with its nine cells, with blanks between them
abbrev pub table_cells : Neighbourhood → Symmetry → List Transition → List ℕ → List ℕ
table_cells of under lines text = map (table_next (table_of of under lines)) (digit_lists text)

-- the next cells where the table has one transition and its inputs are taken as they stand
abbrev pub unturned_cells : Neighbourhood → Transition → List ℕ → List ℕ
unturned_cells of line text = table_cells of Identity (line ∷ []) text

-- one of another name, without transitions
abbrev pub example_table : List ℕ → TableRule
example_table other = record (table_of VonNeumann Identity []) { name = other }

-- `a` and `b`
abbrev pub a : Slot
a = Variable 0

abbrev pub b : Slot
b = Variable 1

-- a transition of four neighbours, given by its centre, north, east, south and west, and its result
abbrev pub line : Slot → Slot → Slot → Slot → Slot → Slot → Transition
line centre north east south west becomes = record { inputs = centre ∷ north ∷ east ∷ south ∷ west ∷ []; result = becomes }

-- `0,a,0,0,0,a`
abbrev pub one_neighbour : Transition
one_neighbour = line (Number 0) a (Number 0) (Number 0) (Number 0) a

-- `0,a,b,0,0,a`
abbrev pub two_neighbours : Transition
two_neighbours = line (Number 0) a b (Number 0) (Number 0) a

-- `0,a,a,0,0,a`
abbrev pub like_neighbours : Transition
like_neighbours = line (Number 0) a a (Number 0) (Number 0) a

-- `0,1,0,0,0,2`
abbrev pub north_of_one : Transition
north_of_one = line (Number 0) (Number 1) (Number 0) (Number 0) (Number 0) (Number 2)

-- the next cells where one neighbour spreads, of four whose one live neighbour is to the north, east, south and west
abbrev pub cells_by_one : Symmetry → List ℕ
cells_by_one under = table_cells VonNeumann under (one_neighbour ∷ []) (codes "020000000 000001000 000000010 000200000")

-- the next cells where two neighbours spread, of one with two that meet, and of one with two that lie opposite
abbrev pub cells_by_two : Symmetry → List ℕ
cells_by_two under = table_cells VonNeumann under (two_neighbours ∷ []) (codes "010200000 000102000")

-- the next cells of the one south of a 1 and of the one south of a 2, where inputs are taken as they stand
abbrev pub cells_south : List Transition → List ℕ
cells_south lines = table_cells VonNeumann Identity lines (codes "010000000 020000000")

-- `0,0,1,0,0,0,0,0,0,1`, `0,0,1,0,0,0,0,1`, `0,0,1,1`: a live cell at the second position of the ring
abbrev pub second_of_eight : Transition
second_of_eight = record {
  inputs = Number 0 ∷ Number 0 ∷ Number 1 ∷ Number 0 ∷ Number 0 ∷ Number 0 ∷ Number 0 ∷ Number 0 ∷ Number 0 ∷ [];
  result = Number 1;
}

abbrev pub second_of_six : Transition
second_of_six = record {
  inputs = Number 0 ∷ Number 0 ∷ Number 1 ∷ Number 0 ∷ Number 0 ∷ Number 0 ∷ Number 0 ∷ [];
  result = Number 1;
}

abbrev pub second_of_two : Transition
second_of_two = record { inputs = Number 0 ∷ Number 0 ∷ Number 1 ∷ []; result = Number 1 }

-- a rule file of seven lines, of which the values of the table's settings and the last line are given
abbrev pub file_with : List ℕ → List ℕ → List ℕ → List ℕ → List ℕ
file_with states neighbourhood symmetry last =
    text_of (codes "@RULE Spread" ∷ codes "@TABLE" ∷ (codes "n_states:" ++ states) ∷ (codes "neighborhood:" ++ neighbourhood) ∷ (codes "symmetries:" ++ symmetry) ∷ codes "var a={1,2}" ∷ last ∷ [])

-- one whose settings are good
abbrev pub file_of : List ℕ → List ℕ
file_of last = file_with (codes "3") (codes "vonNeumann") (codes "rotate4") last

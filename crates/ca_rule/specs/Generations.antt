-- Rules of the family Generations (Golly Help, Algorithms: Generations): what a cell is next, and how a rule is spelled and
-- printed. State 0 is a dead cell, state 1 a live one, and a cell of state 2 or more is dying.
use Rattle.std.specs.Prelude.{◌≡◌, ℕ, ◌≤◌, List, ◌++◌, map, false, ◌==◌, ◌&&◌, IsTrue, Some, codes, decimal, slice_index, if◌then◌else◌}
use Rattle.ca_plane.specs.Prelude.{liveness, older}
use Rattle.ca_plane.specs.declared.counting.Ageing.{Ageing}
use Rattle.ca_rule.specs.{Counts.is_count, Counts.are_digits_up_to, Digits.state_count, Masks.counting_by_hood, Next.neighbour_count, Spelling.NamesCounts}
use Rattle.ca_rule.specs.{Spelling.SpellsNone, Spelling.IsSpellingFault, Spelling.digits_of}
use Rattle.ca_rule.specs.declared.{counts.Counts.Counts, fault.RuleFault.RuleFault, gen_rule.GenRule.GenRule}
use Rattle.ca_rule.specs.declared.hood.Hood.TheVariants.{Moore}

-- ---- cells

-- how many live cells are among the eight round the centre of nine
abbrev pub live_count : List ℕ → ℕ
live_count nine = neighbour_count Moore (map liveness nine)

-- a dead cell is born at a birth count of live cells round it, and a live one stays live at a survival count; every other
-- live cell begins to die, and a dying one goes on to
abbrev pub generations_next_state : Counts → Counts → ℕ → ℕ → ℕ → ℕ
generations_next_state survival birth states centre count =
    if centre == 0 then (if is_count birth count then 1 else 0)
    else (if (centre == 1) && is_count survival count then 1 else older states centre)

-- the next state of the centre of nine cells
abbrev pub generations_next : Counts → Counts → ℕ → List ℕ → ℕ
generations_next survival birth states nine = generations_next_state survival birth states (slice_index nine 4) (live_count nine)

-- there are two states or more, and the empty plane stays empty
pub record IsSoundGenerations (birth : Counts) (states : ℕ) : Type 0 where
  pub low : 2 ≤ states
  pub quiet : is_count birth 0 ≡ false

-- how its live cells age: by the masks of its counts, of all eight neighbours, and its number of states
abbrev pub ageing_by_counts : (birth survival : Counts) → ℕ → Ageing
ageing_by_counts birth survival states = record { counting = counting_by_hood Moore birth survival; states = states }

-- ---- texts: `S/B/C` (that digits may stand in any order and repeated, the limits of C, and what is printed are our own)

-- the text spells a rule: survival digits, `/`, birth digits, `/`, and the number of states, as `345/2/4`
pub record SpellsGenerationsRule (text survival birth : List ℕ) (states : ℕ) : Type 0 where
  pub survival_digits : IsTrue (are_digits_up_to 8 survival)
  pub birth_digits : IsTrue (are_digits_up_to 8 birth)
  pub number : List ℕ
  pub number_is : state_count number ≡ Some states
  pub form : text ≡ survival ++ (codes "/" ++ (birth ++ (codes "/" ++ number)))

-- the text names the rule
abbrev pub NamesGenerationsRule : List ℕ → GenRule → Type 0
NamesGenerationsRule text rule = NamesCounts (λ birth survival. SpellsGenerationsRule text survival birth rule.states) rule.birth rule.survival

-- the text spells no rule, with birth on 0 or without
abbrev pub SpellsNoGenerationsRule : List ℕ → Type 0
SpellsNoGenerationsRule text = SpellsNone (λ birth survival. SpellsGenerationsRule text survival birth)

-- the fault of a text that names no rule
abbrev pub IsGenerationsRuleFault : List ℕ → RuleFault → Type 0
IsGenerationsRuleFault text = IsSpellingFault (λ birth survival. SpellsGenerationsRule text survival birth) text

-- the printed form: the survival digits, `/`, the birth digits, `/`, and the number of states
abbrev pub printed_generations_rule : Counts → Counts → ℕ → List ℕ
printed_generations_rule survival birth states = digits_of survival ++ (codes "/" ++ (digits_of birth ++ (codes "/" ++ decimal states)))

-- The text of a rule table (Golly Help, File Formats: rule files and rule tables; what is marked so is our own).
use Rattle.std.specs.Prelude.{◌≡◌, ℕ, ◌+◌, ◌<◌, List, [], ◌∷◌, ◌++◌, map, filter, Bool, true, false, not, ◌&&◌, Option, Some, None, is_some, ◌⊎◌, if◌then◌else◌}
use Rattle.std.specs.List.{list_any, range_with_len, AllZip}
use Rattle.std.specs.Option.{option_or}
use Rattle.std.specs.Str.{bytes_eq}
use Rattle.ca_plane.specs.Prelude.{value}
use Rattle.ca_rule.specs.declared.table.{neighbourhood.Neighbourhood.Neighbourhood, neighbourhood.Symmetry.Symmetry, slot.Slot.Slot}
use Rattle.ca_rule.specs.declared.table.slot.Slot.TheVariants.{Number, Variable}
use Rattle.ca_rule.specs.TableOrders.{ring_size}
use Rattle.ca_rule.specs.TableNext.{States, admits, is_variable, Transition, TableRule}
use Rattle.ca_rule.specs.Digits.{are_digits}
use Rattle.ca_rule.specs.TableLines.{NumberedLine, lines_said, rule_name, begins_table, begins_section, is_setting, setting, setting_words, value_of, states_set, neighbourhood_set, symmetry_set, is_name, IsVariableLine, IsTransitionLine}

-- the text gives this name, and these lines follow the one that begins its table: first `@RULE`, then lines that are
-- skipped, then the first `@TABLE`
pub record HasTable (bytes name : List ℕ) (lines : List NumberedLine) : Type 0 where
  pub rule_line : NumberedLine
  pub skipped : List NumberedLine
  pub table_line : NumberedLine
  pub named : rule_name rule_line ≡ Some name
  pub no_table : list_any begins_table skipped ≡ false
  pub begins : begins_table table_line ≡ true
  pub whole : lines_said bytes ≡ rule_line ∷ (skipped ++ table_line ∷ lines)

-- the line is a setting that one of the earlier lines sets
abbrev pub sets_again : List NumberedLine → NumberedLine → Bool
sets_again earlier line = list_any (λ word. is_some (setting word line) && is_some (value_of word earlier)) setting_words

-- after earlier lines, all lines are settings, and none is set again
abbrev pub are_settings : List NumberedLine → List NumberedLine → Bool
are_settings earlier [] = true
are_settings earlier (l ∷ ls) = (is_setting l && not (sets_again earlier l)) && are_settings (earlier ++ l ∷ []) ls

-- what the settings of a table mean
pub record Settings : Type 0 where
  pub states : ℕ
  pub neighbourhood : Neighbourhood
  pub symmetry : Symmetry

-- the lines are settings, all three of them, each once and in any order, and mean this
pub record SettingsMean (lines : List NumberedLine) (settings : Settings) : Type 0 where
  pub once : are_settings [] lines ≡ true
  pub states_are : states_set lines ≡ Some settings.states
  pub neighbourhood_is : neighbourhood_set lines ≡ Some settings.neighbourhood
  pub symmetry_is : symmetry_set settings.neighbourhood lines ≡ Some settings.symmetry

-- what statements say: a variable's name and states for each of their lines, and the transitions
pub record SaidStatements : Type 0 where
  pub variables : List (List ℕ × States)
  pub transitions : List Transition

-- before the first statement
abbrev pub no_statements : SaidStatements
no_statements = record { variables = []; transitions = [] }

-- the states of the variables
abbrev pub states_said : SaidStatements → List States
states_said said = map (λ (v : List ℕ × States). v.1) said.variables

-- the number of the last variable of this name, where the list's first variable has the number n; a later line replaces an
-- earlier one for the lines below it (our own)
abbrev pub number_of : ℕ → List (List ℕ × States) → List ℕ → Option ℕ
number_of n [] name = None
number_of n (v ∷ vs) name = option_or (number_of (n + 1) vs name) (if bytes_eq v.0 name then Some n else None)

-- a field stands for a state of the table, or for a variable
abbrev pub StandsFor : Settings → SaidStatements → List ℕ → Slot → Type 0
StandsFor settings said field (Number state) = (are_digits field ≡ true) × (state ≡ value field) × (state < settings.states)
StandsFor settings said field (Variable v) = (is_name field ≡ true) × (number_of 0 said.variables field ≡ Some v)

-- a variable has the states of all its fields, rising: numbers, and the states that earlier variables have at that line
abbrev pub states_among : Settings → List States → List Slot → States
states_among settings variables slots = filter (λ s. list_any (λ slot. admits variables slot s) slots) (range_with_len 0 settings.states)

-- after what was said, the line says one more variable
pub record SaysVariable (settings : Settings) (said : SaidStatements) (line : NumberedLine) (after : SaidStatements) : Type 0 where
  pub name : List ℕ
  pub fields : List (List ℕ)
  pub slots : List Slot
  pub spelled : IsVariableLine line name fields
  pub stand : AllZip (StandsFor settings said) fields slots
  pub after_is : after ≡ record said { variables = said.variables ++ (name, states_among settings (states_said said) slots) ∷ [] }

-- a result is a number, or a variable among the inputs
abbrev pub is_bound : Slot → List Slot → Bool
is_bound (Number state) inputs = true
is_bound (Variable v) inputs = list_any (is_variable v) inputs

-- how many fields a transition has: the centre, the ring, and the result
abbrev pub field_count : Settings → ℕ
field_count settings = ring_size settings.neighbourhood + 2

-- the line is a transition, and this holds of its inputs and its result
pub record HasTransition (settings : Settings) (said : SaidStatements) (line : NumberedLine) (P : List Slot → Slot → Type 0) : Type 0 where
  pub fields : List (List ℕ)
  pub inputs : List Slot
  pub result : Slot
  pub spelled : IsTransitionLine line (field_count settings) fields
  pub stand : AllZip (StandsFor settings said) fields (inputs ++ result ∷ [])
  pub holds : P inputs result

-- the line says one more transition
abbrev pub SaysTransition : Settings → SaidStatements → NumberedLine → SaidStatements → Type 0
SaysTransition settings said line after = HasTransition settings said line (λ inputs result. (is_bound result inputs ≡ true)
    × (after ≡ record said { transitions = said.transitions ++ record { inputs = inputs; result = result } ∷ [] }))

-- the lines are statements, which say this, one after another, after what was said
abbrev pub LinesSay : Settings → SaidStatements → List NumberedLine → SaidStatements → Type 0
LinesSay settings said [] after = said ≡ after
LinesSay settings said (l ∷ ls) after = (next : SaidStatements) × (SaysVariable settings said l next ⊎ SaysTransition settings said l next) × LinesSay settings next ls after

-- what a name, settings and statements make
abbrev pub table_from : List ℕ → Settings → SaidStatements → TableRule
table_from named settings said = record {
  name = named;
  states = settings.states;
  neighbourhood = settings.neighbourhood;
  symmetry = settings.symmetry;
  variables = states_said said;
  transitions = said.transitions;
}

-- no line is left, or the first of them begins a section
abbrev pub is_end_of_section : List NumberedLine → Bool
is_end_of_section [] = true
is_end_of_section (l ∷ ls) = begins_section l

-- the text is that of the table: its settings, then its statements, up to the next section or the end. What follows
-- a later `@`, also a second `@RULE` or `@TABLE`, is skipped (our own)
pub record IsTable (bytes : List ℕ) (table : TableRule) : Type 0 where
  pub name : List ℕ
  pub setting_lines : List NumberedLine
  pub statements : List NumberedLine
  pub later : List NumberedLine
  pub settings : Settings
  pub said : SaidStatements
  pub has_table : HasTable bytes name (setting_lines ++ (statements ++ later))
  pub mean : SettingsMean setting_lines settings
  pub say : LinesSay settings no_statements statements said
  pub ends : is_end_of_section later ≡ true
  pub table_is : table ≡ table_from name settings said

-- What is wrong with the text of a rule table: the first faulty line (our own order).
use Rattle.std.specs.Prelude.{◌≡◌, ◌≢◌, ℕ, ◌≤◌, List, [], ◌∷◌, ◌++◌, replicate, Bool, true, false, not, Some, None, ◌⊎◌}
use Rattle.std.specs.List.{list_any, AllZip}
use Rattle.ca_plane.specs.Prelude.{value}
use Rattle.ca_rule.specs.declared.table.{fault.TableFault.TableFault, neighbourhood.Neighbourhood.Neighbourhood, slot.Slot.Slot}
use Rattle.ca_rule.specs.declared.table.fault.TableFault.TheVariants.{NoRuleLine, NoTable, Syntax, States, Neighborhood, Symmetries, Variable, Unbound, Wakes, Memory}
use Rattle.ca_rule.specs.TableNext.{TableRule, table_next}
use Rattle.ca_rule.specs.Digits.{are_digits}
use Rattle.ca_rule.specs.TableLines.{NumberedLine, lines_said, last_line, rule_name, begins_table, begins_section, is_setting, states_set, neighbourhood_set, symmetry_set, is_name, IsVariableLine, IsTransitionLine}
use Rattle.ca_rule.specs.TableText.{HasTable, sets_again, are_settings, Settings, SettingsMean, SaidStatements, no_statements, number_of, StandsFor, SaysVariable, is_bound, field_count, HasTransition, SaysTransition, LinesSay, IsTable}

-- the number of the first of the lines, or of the text's last where there is none
abbrev pub number_at : List ℕ → List NumberedLine → ℕ
number_at bytes [] = last_line bytes
number_at bytes (l ∷ ls) = l.0

-- the first of the lines, if there is one, is no setting
abbrev pub follows_settings : List NumberedLine → Bool
follows_settings [] = true
follows_settings (l ∷ ls) = not (is_setting l)

-- the first line that says something is no `@RULE` with a name
abbrev pub HasNoRuleLine : List NumberedLine → Type 0
HasNoRuleLine [] = Unit {0}
HasNoRuleLine (l ∷ ls) = rule_name l ≡ None

-- no line after the first begins a table
abbrev pub HasNoTable : List NumberedLine → Type 0
HasNoTable [] = ⊥
HasNoTable (l ∷ ls) = (name : List ℕ) × (rule_name l ≡ Some name) × (list_any begins_table ls ≡ false)

-- after settings, each once and not yet judged, the n-th line of the text is a setting that one of them sets
pub record SetsAgain (bytes : List ℕ) (n : ℕ) : Type 0 where
  pub name : List ℕ
  pub good : List NumberedLine
  pub line : NumberedLine
  pub later : List NumberedLine
  pub has_table : HasTable bytes name (good ++ line ∷ later)
  pub once : are_settings [] good ≡ true
  pub again : sets_again good line ≡ true
  pub number : n ≡ line.0

-- the table's first lines are these, settings, each once, up to the n-th line of the text: the first other line, or the
-- text's last
pub record HaveEnd (bytes : List ℕ) (n : ℕ) (lines : List NumberedLine) : Type 0 where
  pub name : List ℕ
  pub tail_after : List NumberedLine
  pub has_table : HasTable bytes name (lines ++ tail_after)
  pub once : are_settings [] lines ≡ true
  pub ends : follows_settings tail_after ≡ true
  pub number : n ≡ number_at bytes tail_after

-- there are such settings, and this holds of them
abbrev pub HasSettings : List ℕ → ℕ → (List NumberedLine → Type 0) → Type 0
HasSettings bytes n P = (lines : List NumberedLine) × HaveEnd bytes n lines × P lines

-- no number of states is set, or none from 2 to 256
abbrev pub LackStates : List NumberedLine → Type 0
LackStates lines = states_set lines ≡ None

-- a number of states is, but no neighbourhood that there is
abbrev pub LackNeighbourhood : List NumberedLine → Type 0
LackNeighbourhood lines = (n : ℕ) × (states_set lines ≡ Some n) × (neighbourhood_set lines ≡ None)

-- both are, but no symmetry that the neighbourhood has
abbrev pub LackSymmetry : List NumberedLine → Type 0
LackSymmetry lines = (n : ℕ) × (neighbourhood : Neighbourhood)
    × (states_set lines ≡ Some n) × (neighbourhood_set lines ≡ Some neighbourhood) × (symmetry_set neighbourhood lines ≡ None)

-- after good settings and good statements comes a line of the table, the n-th of the text, and this holds of it
pub record HasStatement (bytes : List ℕ) (n : ℕ) (P : Settings → SaidStatements → NumberedLine → Type 0) : Type 0 where
  pub name : List ℕ
  pub setting_lines : List NumberedLine
  pub good : List NumberedLine
  pub line : NumberedLine
  pub later : List NumberedLine
  pub settings : Settings
  pub said : SaidStatements
  pub has_table : HasTable bytes name (setting_lines ++ (good ++ line ∷ later))
  pub mean : SettingsMean setting_lines settings
  pub ends : follows_settings (good ++ line ∷ later) ≡ true
  pub say : LinesSay settings no_statements good said
  pub in_table : begins_section line ≡ false
  pub number : n ≡ line.0
  pub holds : P settings said line

-- the line is spelled neither as a variable's nor as a transition; a setting after a statement is such a line
abbrev pub IsMisspelled : Settings → SaidStatements → NumberedLine → Type 0
IsMisspelled settings said line =
    ((name : List ℕ) (fields : List (List ℕ)) → IsVariableLine line name fields → ⊥)
    × ((fields : List (List ℕ)) → IsTransitionLine line (field_count settings) fields → ⊥)

-- the fields of a line that is spelled as a variable's or as a transition
abbrev pub HasFields : Settings → NumberedLine → List (List ℕ) → Type 0
HasFields settings line fields = ((name : List ℕ) × IsVariableLine line name fields) ⊎ IsTransitionLine line (field_count settings) fields

-- of its fields, the first that stands for nothing is one of which this holds
pub record HasBadField (settings : Settings) (said : SaidStatements) (line : NumberedLine) (P : List ℕ → Type 0) : Type 0 where
  pub good : List (List ℕ)
  pub slots : List Slot
  pub field : List ℕ
  pub later : List (List ℕ)
  pub spelled : HasFields settings line (good ++ field ∷ later)
  pub stand : AllZip (StandsFor settings said) good slots
  pub holds : P field

-- the first field that stands for nothing is a number that is no state of the table
abbrev pub HasBadState : Settings → SaidStatements → NumberedLine → Type 0
HasBadState settings said line = HasBadField settings said line (λ field. (are_digits field ≡ true) × (settings.states ≤ value field))

-- the first field that stands for nothing is a name that no earlier variable has
abbrev pub HasUnknownName : Settings → SaidStatements → NumberedLine → Type 0
HasUnknownName settings said line = HasBadField settings said line (λ field. (is_name field ≡ true) × (number_of 0 said.variables field ≡ None))

-- a transition whose result is a variable that is no input
abbrev pub HasUnbound : Settings → SaidStatements → NumberedLine → Type 0
HasUnbound settings said line = HasTransition settings said line (λ inputs result. is_bound result inputs ≡ false)

-- the line is a good statement
abbrev pub SaysMore : Settings → SaidStatements → NumberedLine → Type 0
SaysMore settings said line = (after : SaidStatements) × (SaysVariable settings said line after ⊎ SaysTransition settings said line after)

-- the table turns nine zeros into another state
abbrev pub DoesWake : TableRule → Type 0
DoesWake table = table_next table (replicate 9 0) ≢ 0

-- the text's fault, with the number of its line: the first faulty line's, else that the table wakes. Out of memory may
-- come at a good statement after good lines, and at the end of a table
abbrev pub IsTableTextFault : List ℕ → TableFault → Type 0
IsTableTextFault bytes (NoRuleLine n) = HasNoRuleLine (lines_said bytes) × (n ≡ number_at bytes (lines_said bytes))
IsTableTextFault bytes (NoTable n) = HasNoTable (lines_said bytes) × (n ≡ last_line bytes)
IsTableTextFault bytes (Syntax n) = SetsAgain bytes n ⊎ HasStatement bytes n IsMisspelled
IsTableTextFault bytes (States n) = HasSettings bytes n LackStates ⊎ HasStatement bytes n HasBadState
IsTableTextFault bytes (Neighborhood n) = HasSettings bytes n LackNeighbourhood
IsTableTextFault bytes (Symmetries n) = HasSettings bytes n LackSymmetry
IsTableTextFault bytes (Variable n) = HasStatement bytes n HasUnknownName
IsTableTextFault bytes (Unbound n) = HasStatement bytes n HasUnbound
IsTableTextFault bytes (Wakes n) = (table : TableRule) × IsTable bytes table × DoesWake table × (n ≡ last_line bytes)
IsTableTextFault bytes Memory = ((n : ℕ) × HasStatement bytes n SaysMore) ⊎ ((table : TableRule) × IsTable bytes table)

use Rattle.std.proofs.Common.{ℕ, List, arith, codes, refl, inl, inr, [], ◌∷◌, ◌++◌, ◌≡◌, true}
use Rattle.std.specs.List.{list_all}
use Rattle.ca_plane.specs.Prelude.{is_blank, Every}
use Rattle.ca_rule.specs.declared.table.neighbourhood.Neighbourhood.TheVariants.{VonNeumann}
use Rattle.ca_rule.specs.declared.table.neighbourhood.Symmetry.TheVariants.{Rotate4}
use Rattle.ca_rule.specs.declared.table.slot.Slot.TheVariants.{Number}
use Rattle.ca_rule.specs.Prelude.{NumberedLine, lines_said, begins_variable, is_field, fields_between, IsVariableLine, IsTransitionLine, TableRule, HasTable, are_settings, Settings, SaidStatements}
use Rattle.ca_rule.specs.Prelude.{no_statements, SaysVariable, SaysTransition, table_from, IsTable, HaveEnd}
use Rattle.ca_rule.specs.TableExamples.{file_with, file_of, one_neighbour, a}
use Rattle.ca_rule.proofs.table.laws.worked_texts.Goals as goal

-- the line of a variable `a`, with a blank after `var`
is_variable : {line : NumberedLine} {fields : List (List ℕ)} (second third inside : List ℕ) → begins_variable line ≡ true → Every is_blank second → Every is_blank third → fields_between inside ≡ fields → list_all is_field fields ≡ true
    → line.1 ≡ codes "var" ++ (codes " " ++ (codes "a" ++ (second ++ (codes "=" ++ (third ++ (codes "{" ++ (inside ++ codes "}"))))))) → IsVariableLine line (codes "a") fields
is_variable second third inside b s t f a w =
    record { first = codes " "; second = second; third = third; inside = inside; begins = b; first_blanks = refl; second_blanks = s; third_blanks = t; named = refl; fields_are = f; are_fields = a; spelled = w }

pub returns-clause-variable_is_spelled : goal.returns-clause-variable_is_spelled
returns-clause-variable_is_spelled c = is_variable (codes " ") (codes " ") (codes " 1 , b ") refl refl refl refl refl refl

-- the settings of the examples, and what their statements say
abbrev of_four : Settings
of_four = record { states = 3; neighbourhood = VonNeumann; symmetry = Rotate4 }

abbrev one_said : SaidStatements
one_said = record { variables = (codes "a", 1 ∷ 2 ∷ []) ∷ []; transitions = [] }

abbrev both_said : SaidStatements
both_said = record { variables = (codes "a", 1 ∷ 2 ∷ []) ∷ []; transitions = one_neighbour ∷ [] }

-- the lines of the settings with these values, and those after them
abbrev settings_with : List ℕ → List ℕ → List ℕ → List NumberedLine
settings_with states neighbourhood symmetry = (3, codes "n_states:" ++ states) ∷ (4, codes "neighborhood:" ++ neighbourhood) ∷ (5, codes "symmetries:" ++ symmetry) ∷ []

abbrev statements_with : List ℕ → List NumberedLine
statements_with last = (6, codes "var a={1,2}") ∷ (7, last) ∷ []

says_one : SaysVariable of_four no_statements (6, codes "var a={1,2}") one_said
says_one = record {
  name = codes "a";
  fields = codes "1" ∷ codes "2" ∷ [];
  slots = Number 1 ∷ Number 2 ∷ [];
  spelled = is_variable [] [] (codes "1,2") refl refl refl refl refl refl;
  stand = ((refl, refl, omega arith), ((refl, refl, omega arith), tt));
  after_is = refl;
}

-- the transition, however its fields are set apart
says_both : (last : List ℕ) → IsTransitionLine (7, last) 6 (codes "0" ∷ codes "a" ∷ codes "0" ∷ codes "0" ∷ codes "0" ∷ codes "a" ∷ []) → SaysTransition of_four one_said (7, last) both_said
says_both last is_spelled = record {
  fields = codes "0" ∷ codes "a" ∷ codes "0" ∷ codes "0" ∷ codes "0" ∷ codes "a" ∷ [];
  inputs = Number 0 ∷ a ∷ Number 0 ∷ Number 0 ∷ Number 0 ∷ [];
  result = a;
  spelled = is_spelled;
  stand = ((refl, refl, omega arith), ((refl, refl), ((refl, refl, omega arith), ((refl, refl, omega arith), ((refl, refl, omega arith), ((refl, refl), tt))))));
  holds = (refl, refl);
}

-- the rule file's head, and these lines after it
head : (bytes : List ℕ) (lines : List NumberedLine) → lines_said bytes ≡ (1, codes "@RULE Spread") ∷ ((2, codes "@TABLE") ∷ lines) → HasTable bytes (codes "Spread") lines
head bytes lines said = record { rule_line = (1, codes "@RULE Spread"); skipped = []; table_line = (2, codes "@TABLE"); named = refl; no_table = refl; begins = refl; whole = said }

abbrev good : List NumberedLine
good = settings_with (codes "3") (codes "vonNeumann") (codes "rotate4")

is_read : (last : List ℕ) → HasTable (file_of last) (codes "Spread") (good ++ (statements_with last ++ [])) → IsTransitionLine (7, last) 6 (codes "0" ∷ codes "a" ∷ codes "0" ∷ codes "0" ∷ codes "0" ∷ codes "a" ∷ [])
    → (table : TableRule) × IsTable (file_of last) table × (table.transitions ≡ one_neighbour ∷ [])
is_read last has is_spelled = (
  table_from (codes "Spread") of_four both_said,
  record {
    name = codes "Spread";
    setting_lines = good;
    statements = statements_with last;
    later = [];
    settings = of_four;
    said = both_said;
    has_table = has;
    mean = record { once = refl; states_are = refl; neighbourhood_is = refl; symmetry_is = refl };
    say = (one_said, inl says_one, (both_said, inr (says_both last is_spelled), refl));
    ends = refl;
    table_is = refl;
  },
  refl,
)

pub returns-clause-table_is_read : goal.returns-clause-table_is_read
returns-clause-table_is_read c = is_read (codes "0,a,0,0,0,a") (head _ _ refl) (record { no_variable = refl; fields_are = refl; are_fields = refl; count = refl })

pub returns-clause-table_is_read_without_commas : goal.returns-clause-table_is_read_without_commas
returns-clause-table_is_read_without_commas c = is_read (codes "0a000a") (head _ _ refl) (record { no_variable = refl; fields_are = refl; are_fields = refl; count = refl })

pub returns-clause-table_is_missing : goal.returns-clause-table_is_missing
returns-clause-table_is_missing c = ((codes "Spread", refl, refl), refl)

-- settings that end at the sixth line
end_at_six : (states neighbourhood symmetry : List ℕ) → HasTable (file_with states neighbourhood symmetry (codes "0a000a")) (codes "Spread") (settings_with states neighbourhood symmetry ++ statements_with (codes "0a000a"))
    → are_settings [] (settings_with states neighbourhood symmetry) ≡ true → HaveEnd (file_with states neighbourhood symmetry (codes "0a000a")) 6 (settings_with states neighbourhood symmetry)
end_at_six states neighbourhood symmetry has are = record { name = codes "Spread"; tail_after = statements_with (codes "0a000a"); has_table = has; once = are; ends = refl; number = refl }

pub returns-clause-one_state_is_too_few : goal.returns-clause-one_state_is_too_few
returns-clause-one_state_is_too_few c = inl (_, end_at_six (codes "1") (codes "vonNeumann") (codes "rotate4") (head _ _ refl) refl, refl)

pub returns-clause-neighbourhood_is_unknown : goal.returns-clause-neighbourhood_is_unknown
returns-clause-neighbourhood_is_unknown c = (_, end_at_six (codes "3") (codes "Margolus") (codes "rotate4") (head _ _ refl) refl, (3, refl, refl))

pub returns-clause-symmetry_is_unknown : goal.returns-clause-symmetry_is_unknown
returns-clause-symmetry_is_unknown c = (_, end_at_six (codes "3") (codes "vonNeumann") (codes "rotate8") (head _ _ refl) refl, (3, VonNeumann, refl, refl, refl))

-- The lines of the variables of the written table of a Generations rule say them.
use Rattle.std.proofs.Common.{◌≡◌, ℕ, zero, suc, ◌+◌, ◌-◌, ◌<◌, ◌≤◌, List, [], ◌∷◌, ◌++◌, map, filter, Bool, true, false, not, ◌==◌, ◌&&◌, ◌||◌, Option, Some, None, codes, decimal, refl, sym, ap, subst, ◌∙◌, inl, inr, append_assoc, arith, if◌then◌else◌}
use Rattle.std.specs.List.{list_all, list_any, flat_map, enumerate_from, range_with_len, AllByRecursion, AllZip}
use Rattle.std.proofs.lemmas.Bool.{cases_Bool, and_parts, and_from, false≢true}
use Rattle.std.proofs.lemmas.Bool.Decides.{nat_tests}
use Rattle.std.proofs.lemmas.Fmt.{decimal_digit}
use Rattle.std.proofs.lemmas.List.{append-nil}
use Rattle.ca_plane.specs.Prelude.{is_line_end, Every, trimmed, text_of}
use Rattle.ca_plane.proofs.Fronts.{every_append}
use Rattle.ca_rule.specs.declared.table.slot.Slot.TheVariants.{Number, Variable}
use Rattle.ca_rule.specs.Prelude.{States, admits, is_field, is_name, IsVariableLine, SaidStatements, StandsFor, SaysVariable, LinesSay, IsTable, table_from, states_among, number_of}
use Rattle.ca_rule_files.specs.Prelude.{IsTableName}
use Rattle.ca_rule_files.specs.WrittenTables.{head_lines}
use Rattle.ca_rule_files.specs.GenerationsTables.{listed_states, least_of, variable_line, variable_lines}
use Rattle.ca_rule_files.proofs.WrittenTables.{is_plain, IsSaid, one-line, no-blanks, no-comment, front-all, keeps-end, something-said, is_field_byte, IsFieldText, joined, plain-field, fields-back, joined-plain, are-fields, slot_text, number-text, number-stands}
use Rattle.ca_rule_files.proofs.WrittenTables.{Written, written_line, written_transition, settings_of, said_of, IsWritable, IsGood, is-table}

-- ---- numbers of a range

-- what holds of each number of a range
pub among : (P : ℕ → Type 0) (from count v : ℕ) → from ≤ v → v < from + count → AllByRecursion P (range_with_len from count) → P v
among P from zero v low high all = absurd (omega arith)
among P from (suc count) v low high all = elim (cases_Bool (from == v)) [
  | inl t ↦ let same : from ≡ v = grind (arith, nat_tests) in subst P same all.0
  | inr t ↦ let more : from + 1 ≤ v = grind (arith, nat_tests) in among P (from + 1) count v more (omega arith) all.1
]

-- what is tested of each
among-tested : (test : ℕ → Bool) (from count v : ℕ) → from ≤ v → v < from + count → list_all test (range_with_len from count) ≡ true → test v ≡ true
among-tested test from count v low high all = among (λ v. test v ≡ true) from count v low high (each (range_with_len from count) all)
  where
    each : (vs : List ℕ) → list_all test vs ≡ true → AllByRecursion (λ v. test v ≡ true) vs
    each [] all = tt
    each (v ∷ vs) all = let both = and_parts (test v) (list_all test vs) all in (both.0, each vs both.1)

letter-text : (v : ℕ) → v < 16 → IsFieldText ((97 + v) ∷ [])
letter-text v low =
    let tested = among-tested (λ v. list_all is_field_byte ((97 + v) ∷ []) && is_field ((97 + v) ∷ [])) 0 16 v (omega arith) low refl in
    let both = and_parts (list_all is_field_byte ((97 + v) ∷ [])) (is_field ((97 + v) ∷ [])) tested in
    record { bytes = both.0; is = both.1 }

-- the value is this number
abbrev is_number : ℕ → Option ℕ → Bool
is_number v None = false
is_number v (Some n) = n == v

is-number : (v : ℕ) (o : Option ℕ) → is_number v o ≡ true → o ≡ Some v
is-number v None e = absurd (false≢true e)
is-number v (Some n) e = let same : n ≡ v = grind (arith, nat_tests) in ap Some same

-- ---- a table of `states` states

module _ (states : ℕ) (low : 2 ≤ states) (high : states ≤ 256) where
  -- the states that are listed, starting at `from`, and 0
  abbrev pub listed_from : ℕ → States
  listed_from from = filter (λ c. list_any (λ k. c == k) (range_with_len from (states - from) ++ 0 ∷ [])) (range_with_len 0 states)

  -- a variable's name and states
  abbrev pub variable_said : ℕ → List ℕ × States
  variable_said v = ((97 + v) ∷ [], listed_from (least_of v))

  -- the sixteen variables
  abbrev pub all_said : List (List ℕ × States)
  all_said = map variable_said (range_with_len 0 16)

  -- the variables of a file, where it has any
  abbrev pub said_variables : Bool → List (List ℕ × States)
  said_variables lettered = if lettered then all_said else []

  -- their lines
  abbrev pub variables_of : Bool → List (List ℕ)
  variables_of lettered = if lettered then variable_lines states 16 else []

  -- a letter stands for its variable
  letter-stands : (v : ℕ) → v < 16 → StandsFor (settings_of states) (said_of all_said []) ((97 + v) ∷ []) (Variable v)
  letter-stands v few =
      let tested = among-tested (λ v. is_name ((97 + v) ∷ []) && is_number v (number_of 0 all_said ((97 + v) ∷ []))) 0 16 v (omega arith) few refl in
      let both = and_parts (is_name ((97 + v) ∷ [])) (is_number v (number_of 0 all_said ((97 + v) ∷ []))) tested in
      (both.0, is-number v (number_of 0 all_said ((97 + v) ∷ [])) both.1)

  -- ---- a variable's line

  numbers-fields : (from count : ℕ) → from + count ≤ states → AllByRecursion IsFieldText (map slot_text (map Number (range_with_len from count)))
  numbers-fields from zero h = tt
  numbers-fields from (suc count) h = (number-text from (omega arith), numbers-fields (from + 1) count (omega arith))

  numbers-stand : (said : SaidStatements) (from count : ℕ) → from + count ≤ states
      → AllZip (StandsFor (settings_of states) said) (map slot_text (map Number (range_with_len from count)) ++ decimal 0 ∷ []) (map Number (range_with_len from count) ++ Number 0 ∷ [])
  numbers-stand said from zero h = (number-stands states high said 0 (omega arith), tt)
  numbers-stand said from (suc count) h = (number-stands states high said from (omega arith), numbers-stand said (from + 1) count (omega arith))

  numbers-admit : (vs : List States) (c : ℕ) (ks : List ℕ) → list_any (λ slot. admits vs slot c) (map Number ks ++ Number 0 ∷ []) ≡ list_any (λ k. c == k) (ks ++ 0 ∷ [])
  numbers-admit vs c [] = refl
  numbers-admit vs c (k ∷ ks) = ap (λ v. (c == k) || v) (numbers-admit vs c ks)

  numbers-joined : (ks : List ℕ) → flat_map (λ field. field ++ 44 ∷ []) (map slot_text (map Number ks)) ≡ flat_map (λ state. decimal state ++ 44 ∷ []) ks
  numbers-joined [] = refl
  numbers-joined (k ∷ ks) = ap (λ l. (decimal k ++ 44 ∷ []) ++ l) (numbers-joined ks)

  letter-named : (v : ℕ) → v < 16 → is_name ((97 + v) ∷ []) ≡ true
  letter-named v h = (letter-stands v h).0

  -- what is between its braces
  abbrev inside_of : ℕ → List ℕ
  inside_of from = joined (map slot_text (map Number (range_with_len from (states - from)))) (decimal 0)

  inside-is : (from : ℕ) → listed_states from (states - from) ++ codes "0}" ≡ inside_of from ++ codes "}"
  inside-is from =
      ap (λ l. l ++ codes "0}") (sym (numbers-joined (range_with_len from (states - from))))
      ∙ ap (λ ds. flat_map (λ field. field ++ 44 ∷ []) (map slot_text (map Number (range_with_len from (states - from)))) ++ (ds ++ codes "}")) (sym (decimal_digit 0 (omega arith)))
      ∙ sym (append_assoc (flat_map (λ field. field ++ 44 ∷ []) (map slot_text (map Number (range_with_len from (states - from))))) (decimal 0) (codes "}"))

  is-variable : (n v : ℕ) → v < 16 → least_of v ≤ states
      → IsVariableLine (n, variable_line states v) ((97 + v) ∷ []) (map slot_text (map Number (range_with_len (least_of v) (states - least_of v))) ++ decimal 0 ∷ [])
  is-variable n v few some =
      let from = least_of v in
      let fields = numbers-fields from (states - from) (omega arith) in
      let last = number-text 0 (omega arith) in
      record {
        first = codes " ";
        second = [];
        third = [];
        inside = inside_of from;
        begins = refl;
        first_blanks = refl;
        second_blanks = refl;
        third_blanks = refl;
        named = letter-named v few;
        fields_are = fields-back (map slot_text (map Number (range_with_len from (states - from)))) (decimal 0) fields last;
        are_fields = are-fields (map slot_text (map Number (range_with_len from (states - from)))) (decimal 0) fields last;
        spelled = ap (λ l. codes "var " ++ (97 + v) ∷ (codes "={" ++ l)) (inside-is from);
      }

  least-low : (v : ℕ) → least_of v ≤ states
  least-low v = grind (arith, nat_tests)

  states-listed : (vs : List States) (from : ℕ) → states_among (settings_of states) vs (map Number (range_with_len from (states - from)) ++ Number 0 ∷ []) ≡ listed_from from
  states-listed vs from = λ t. filter (λ c. numbers-admit vs c (range_with_len from (states - from)) t) (range_with_len 0 states)

  says-variable : (vs : List (List ℕ × States)) (n v : ℕ) → v < 16 → SaysVariable (settings_of states) (said_of vs []) (n, variable_line states v) (said_of (vs ++ variable_said v ∷ []) [])
  says-variable vs n v few =
      let from = least_of v in
      let some = least-low v in
      record {
        name = (97 + v) ∷ [];
        fields = map slot_text (map Number (range_with_len from (states - from))) ++ decimal 0 ∷ [];
        slots = map Number (range_with_len from (states - from)) ++ Number 0 ∷ [];
        spelled = is-variable n v few some;
        stand = numbers-stand (said_of vs []) from (states - from) (omega arith);
        after_is = ap (λ l. said_of (vs ++ ((97 + v) ∷ [], l) ∷ []) []) (sym (states-listed (map (λ (w : List ℕ × States). w.1) vs) from));
      }

  variable-said-line : (v : ℕ) → v < 16 → IsSaid (variable_line states v)
  variable-said-line v few =
      let from = least_of v in
      let some = least-low v in
      let body = codes "={" ++ (listed_states from (states - from) ++ codes "0}") in
      let letter = (and_parts (is_plain (97 + v)) true (plain-field ((97 + v) ∷ []) (letter-text v few).bytes)).0 in
      let inside = joined-plain (map slot_text (map Number (range_with_len from (states - from)))) (decimal 0) (numbers-fields from (states - from) (omega arith)) (number-text 0 (omega arith)) in
      let listed : Every is_plain (listed_states from (states - from) ++ codes "0}") = ap (list_all is_plain) (inside-is from) ∙ every_append is_plain (inside_of from) (codes "}") inside refl in
      let plain : Every is_plain ((97 + v) ∷ body) = and_from (is_plain (97 + v)) (list_all is_plain body) letter listed in
      record {
        one_line = every_append (λ b. not (is_line_end b)) (codes "var ") ((97 + v) ∷ body) refl (one-line ((97 + v) ∷ body) plain);
        content = ap trimmed (front-all (λ b. not (b == 35)) (codes "var " ++ (97 + v) ∷ body) (every_append (λ b. not (b == 35)) (codes "var ") ((97 + v) ∷ body) refl (no-comment ((97 + v) ∷ body) plain)))
            ∙ keeps-end (codes "var ") (97 + v) body (no-blanks ((97 + v) ∷ body) plain);
        something = something-said 118 (codes "ar " ++ (97 + v) ∷ body);
      }

  variables-said-lines : (from count : ℕ) → from + count ≤ 16 → AllByRecursion IsSaid (map (variable_line states) (range_with_len from count))
  variables-said-lines from zero h = tt
  variables-said-lines from (suc count) h = (variable-said-line from (omega arith), variables-said-lines (from + 1) count (omega arith))

  -- lines of variables, and then lines that say the rest
  says-variables : (from count : ℕ) → from + count ≤ 16 → (vs : List (List ℕ × States)) (n : ℕ) (lines : List (List ℕ)) (after : SaidStatements)
      → ((m : ℕ) → LinesSay (settings_of states) (said_of (vs ++ map variable_said (range_with_len from count)) []) (enumerate_from m lines) after)
      → LinesSay (settings_of states) (said_of vs []) (enumerate_from n (map (variable_line states) (range_with_len from count) ++ lines)) after
  says-variables from zero h vs n lines after more = subst (λ l. LinesSay (settings_of states) (said_of l []) (enumerate_from n lines) after) (append-nil vs) (more n)
  says-variables from (suc count) h vs n lines after more = (
    said_of (vs ++ variable_said from ∷ []) [],
    inl (says-variable vs n from (omega arith)),
    says-variables (from + 1) count (omega arith) (vs ++ variable_said from ∷ []) (n + 1) lines after
        (λ m. subst (λ l. LinesSay (settings_of states) (said_of l []) (enumerate_from m lines) after) (sym (append_assoc vs (variable_said from ∷ []) (map variable_said (range_with_len (from + 1) count)))) (more m)),
  )

  -- a variable can stand in a transition
  pub letter-writable : (v : ℕ) → v < 16 → IsWritable states low high all_said (Variable v)
  letter-writable v few = (letter-text v few, letter-stands v few)

  -- the head, the lines of the variables and those of the transitions are the text of the table
  pub is-written-table : (lettered : Bool) (name : List ℕ) (ws : List Written) → IsTableName name → AllByRecursion (IsGood states low high (said_variables lettered)) ws
      → IsTable (text_of (head_lines name states ++ (variables_of lettered ++ map written_line ws))) (table_from name (settings_of states) (said_of (said_variables lettered) (map written_transition ws)))
  is-written-table true name ws is all = is-table states low high all_said name (variable_lines states 16) ws is (variables-said-lines 0 16 (omega arith)) (says-variables 0 16 (omega arith) [] 6) all
  is-written-table false name ws is all = is-table states low high [] name [] ws is tt (λ lines after more. more 6) all

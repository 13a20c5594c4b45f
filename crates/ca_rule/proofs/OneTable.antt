-- A text is the text of one table at most, or has one fault.
use Rattle.std.proofs.Common.{◌≡◌, ◌≢◌, ℕ, ◌⊎◌, Bool, true, false, not, ◌&&◌, List, [], ◌∷◌, ◌++◌, Option, Some, None, Result, Ok, Err, is_some, is_ok, if◌then◌else◌, refl, sym, ap, subst, ◌∙◌, arith, inl, inr, true≢false, append_assoc, append-nil}
use Rattle.std.specs.List.{list_any}
use Rattle.std.specs.Result.{result_unwrap_or}
use Rattle.std.proofs.lemmas.Bool.{and_parts, or_cases, or_parts, or_left, or_right, false≢true, not-true, cond-true, cond-false}
use Rattle.std.proofs.lemmas.Bool.Decides.{nat_tests}
use Rattle.ca_rule.specs.declared.table.{fault.TableFault.TableFault, neighbourhood.Neighbourhood.Neighbourhood, neighbourhood.Symmetry.Symmetry}
use Rattle.ca_rule.specs.declared.table.fault.TableFault.TheVariants.{NoRuleLine, NoTable, Syntax, States, Neighborhood, Symmetries, Variable, Unbound, Wakes, Memory}
use Rattle.ca_rule.specs.Prelude.{TableRule, NumberedLine, lines_said, last_line, rule_name, begins_table, begins_section, setting, setting_words, is_setting, value_of, states_set, neighbourhood_set}
use Rattle.ca_rule.specs.Prelude.{symmetry_set, HasTable, sets_again, are_settings, Settings, SettingsMean, SaidStatements, no_statements, LinesSay, table_from, is_end_of_section, IsTable, number_at}
use Rattle.ca_rule.specs.Prelude.{follows_settings, HasNoRuleLine, HasNoTable, SetsAgain, HasSettings, LackStates, LackNeighbourhood, LackSymmetry, HasStatement, IsMisspelled, HasBadState}
use Rattle.ca_rule.specs.Prelude.{HasUnknownName, HasUnbound, DoesWake, IsTableTextFault}
use Rattle.ca_rule.proofs.OneStatement.{then_ok, step_of, step-says, says-no-setting, says-no-section, step-misspelled, step-bad-state, step-unknown-name, step-unbound}

-- ---- a reading

-- what statements make after what was said, or the first fault
abbrev by_statements : List ℕ → Settings → SaidStatements → List NumberedLine → Result TableRule TableFault
by_statements named settings said [] = Ok (table_from named settings said)
by_statements named settings said (l ∷ ls) = if begins_section l then Ok (table_from named settings said) else then_ok (λ next. by_statements named settings next ls) (step_of settings said l)

-- what they make after settings
abbrev from_nothing : List ℕ → List NumberedLine → Settings → Result TableRule TableFault
from_nothing named lines settings = by_statements named settings no_statements lines

abbrev with_symmetry : ℕ → ℕ → Neighbourhood → Option Symmetry → Result Settings TableFault
with_symmetry n count of None = Err (Symmetries n)
with_symmetry n count of (Some under) = Ok (record { states = count; neighbourhood = of; symmetry = under })

abbrev with_states : ℕ → Option ℕ → Option Neighbourhood → (Neighbourhood → Option Symmetry) → Result Settings TableFault
with_states n None of under = Err (States n)
with_states n (Some count) None under = Err (Neighborhood n)
with_states n (Some count) (Some of) under = with_symmetry n count of (under of)

abbrev under_of : List NumberedLine → Neighbourhood → Option Symmetry
under_of lines of = symmetry_set of lines

-- what settings mean, which end at the n-th line
abbrev settings_of : ℕ → List NumberedLine → Result Settings TableFault
settings_of n lines = with_states n (states_set lines) (neighbourhood_set lines) (under_of lines)

-- the settings end, and these lines follow them
abbrev by_meaning : List ℕ → List ℕ → List NumberedLine → List NumberedLine → Result TableRule TableFault
by_meaning bytes named good tail_after = then_ok (from_nothing named tail_after) (settings_of (number_at bytes tail_after) good)

-- these lines follow settings
abbrev by_settings : List ℕ → List ℕ → List NumberedLine → List NumberedLine → Result TableRule TableFault
by_settings bytes named good [] = by_meaning bytes named good []
by_settings bytes named good (l ∷ ls) =
    if is_setting l then (if sets_again good l then Err (Syntax l.0) else by_settings bytes named (good ++ l ∷ []) ls) else by_meaning bytes named good (l ∷ ls)

-- these lines follow the name
abbrev by_table : List ℕ → List ℕ → List NumberedLine → Result TableRule TableFault
by_table bytes named [] = Err (NoTable (last_line bytes))
by_table bytes named (l ∷ ls) = if begins_table l then by_settings bytes named [] ls else by_table bytes named ls

abbrev by_name : List ℕ → ℕ → Option (List ℕ) → List NumberedLine → Result TableRule TableFault
by_name bytes n None ls = Err (NoRuleLine n)
by_name bytes n (Some named) ls = by_table bytes named ls

abbrev by_lines : List ℕ → List NumberedLine → Result TableRule TableFault
by_lines bytes [] = Err (NoRuleLine (last_line bytes))
by_lines bytes (l ∷ ls) = by_name bytes l.0 (rule_name l) ls

-- the table of a text, or the first fault; whether the table wakes is left out
abbrev reading : List ℕ → Result TableRule TableFault
reading bytes = by_lines bytes (lines_said bytes)

-- ---- the head

module _ (bytes named : List ℕ) where
  skipped-table : (skipped : List NumberedLine) (line : NumberedLine) (lines : List NumberedLine) → list_any begins_table skipped ≡ false → begins_table line ≡ true → by_table bytes named (skipped ++ line ∷ lines) ≡ by_settings bytes named [] lines
  skipped-table [] line lines none begins = cond-true _ _ _ begins
  skipped-table (s ∷ ss) line lines none begins =
      let parts = or_parts (begins_table s) (list_any begins_table ss) none in
      cond-false _ _ _ parts.0 ∙ skipped-table ss line lines parts.1 begins

  no-table : (lines : List NumberedLine) → list_any begins_table lines ≡ false → by_table bytes named lines ≡ Err (NoTable (last_line bytes))
  no-table [] none = refl
  no-table (l ∷ ls) none =
      let parts = or_parts (begins_table l) (list_any begins_table ls) none in
      cond-false _ _ _ parts.0 ∙ no-table ls parts.1

-- a text with a table is read from after `@TABLE` on
has-table : (bytes named : List ℕ) (lines : List NumberedLine) → HasTable bytes named lines → reading bytes ≡ by_settings bytes named [] lines
has-table bytes named lines h =
    ap (by_lines bytes) h.whole ∙ ap (λ o. by_name bytes h.rule_line.0 o (h.skipped ++ h.table_line ∷ lines)) h.named
    ∙ skipped-table bytes named h.skipped h.table_line lines h.no_table h.begins

no-rule-line : (bytes : List ℕ) (lines : List NumberedLine) → HasNoRuleLine lines → by_lines bytes lines ≡ Err (NoRuleLine (number_at bytes lines))
no-rule-line bytes [] none = refl
no-rule-line bytes (l ∷ ls) none = ap (λ o. by_name bytes l.0 o ls) none

no-table-line : (bytes : List ℕ) (lines : List NumberedLine) → HasNoTable lines → by_lines bytes lines ≡ Err (NoTable (last_line bytes))
no-table-line bytes [] none = absurd none
no-table-line bytes (l ∷ ls) none = ap (λ o. by_name bytes l.0 o ls) none.1 ∙ no-table bytes none.0 ls none.2

-- ---- settings

-- what is set again is a setting
any-both : (f g : List ℕ → Bool) (words : List (List ℕ)) → list_any (λ w. f w && g w) words ≡ true → list_any f words ≡ true
any-both f g [] e = e
any-both f g (w ∷ ws) e = elim (or_cases (f w && g w) (list_any (λ w. f w && g w) ws) e) [
  | inl h ↦ or_left (f w) (list_any f ws) (and_parts (f w) (g w) h).0
  | inr h ↦ or_right (f w) (list_any f ws) (any-both f g ws h)
]

pub again-setting : (earlier : List NumberedLine) (line : NumberedLine) → sets_again earlier line ≡ true → is_setting line ≡ true
again-setting earlier line again = any-both (λ word. is_some (setting word line)) (λ word. is_some (value_of word earlier)) setting_words again

module _ (bytes named : List ℕ) where
  good-setting : (earlier : List NumberedLine) (line : NumberedLine) (later : List NumberedLine) → (is_setting line && not (sets_again earlier line)) ≡ true → by_settings bytes named earlier (line ∷ later) ≡ by_settings bytes named (earlier ++ line ∷ []) later
  good-setting earlier line later e =
      let parts = and_parts (is_setting line) (not (sets_again earlier line)) e in
      cond-true _ _ _ parts.0
      ∙ cond-false _ _ _ (not-true (sets_again earlier line) parts.1)

  settings-end : (earlier good tail_after : List NumberedLine) → are_settings earlier good ≡ true → follows_settings tail_after ≡ true → by_settings bytes named earlier (good ++ tail_after) ≡ by_meaning bytes named (earlier ++ good) tail_after
  settings-end earlier [] [] once ends = ap (λ g. by_meaning bytes named g []) (sym (append-nil earlier))
  settings-end earlier [] (l ∷ ls) once ends =
      cond-false _ _ _ (not-true (is_setting l) ends)
      ∙ ap (λ g. by_meaning bytes named g (l ∷ ls)) (sym (append-nil earlier))
  settings-end earlier (x ∷ xs) tail_after once ends =
      let parts = and_parts (is_setting x && not (sets_again earlier x)) (are_settings (earlier ++ x ∷ []) xs) once in
      good-setting earlier x (xs ++ tail_after) parts.0 ∙ settings-end (earlier ++ x ∷ []) xs tail_after parts.1 ends
      ∙ ap (λ g. by_meaning bytes named g tail_after) (append_assoc earlier (x ∷ []) xs)

  settings-again : (earlier good : List NumberedLine) (line : NumberedLine) (later : List NumberedLine) → are_settings earlier good ≡ true → sets_again (earlier ++ good) line ≡ true → by_settings bytes named earlier (good ++ line ∷ later) ≡ Err (Syntax line.0)
  settings-again earlier [] line later once again =
      let twice : sets_again earlier line ≡ true = ap (λ g. sets_again g line) (sym (append-nil earlier)) ∙ again in
      cond-true _ _ _ (again-setting earlier line twice)
      ∙ cond-true _ _ _ twice
  settings-again earlier (x ∷ xs) line later once again =
      let parts = and_parts (is_setting x && not (sets_again earlier x)) (are_settings (earlier ++ x ∷ []) xs) once in
      good-setting earlier x (xs ++ line ∷ later) parts.0
      ∙ settings-again (earlier ++ x ∷ []) xs line later parts.1 (ap (λ g. sets_again g line) (append_assoc earlier (x ∷ []) xs) ∙ again)

-- what settings mean
settings-mean : (n : ℕ) (lines : List NumberedLine) (settings : Settings) → SettingsMean lines settings → settings_of n lines ≡ Ok settings
settings-mean n lines settings m =
    ap (λ o. with_states n o (neighbourhood_set lines) (under_of lines)) m.states_are
    ∙ ap (λ o. with_states n (Some settings.states) o (under_of lines)) m.neighbourhood_is
    ∙ ap (with_symmetry n settings.states settings.neighbourhood) m.symmetry_is

lack-states : (n : ℕ) (lines : List NumberedLine) → LackStates lines → settings_of n lines ≡ Err (States n)
lack-states n lines none = ap (λ o. with_states n o (neighbourhood_set lines) (under_of lines)) none

lack-neighbourhood : (n : ℕ) (lines : List NumberedLine) → LackNeighbourhood lines → settings_of n lines ≡ Err (Neighborhood n)
lack-neighbourhood n lines (count, some, none) =
    ap (λ o. with_states n o (neighbourhood_set lines) (under_of lines)) some
    ∙ ap (λ o. with_states n (Some count) o (under_of lines)) none

lack-symmetry : (n : ℕ) (lines : List NumberedLine) → LackSymmetry lines → settings_of n lines ≡ Err (Symmetries n)
lack-symmetry n lines (count, of, some, other, none) =
    ap (λ o. with_states n o (neighbourhood_set lines) (under_of lines)) some
    ∙ ap (λ o. with_states n (Some count) o (under_of lines)) other
    ∙ ap (with_symmetry n count of) none

-- ---- statements

module _ (named : List ℕ) (settings : Settings) where
  statements-end : (said : SaidStatements) (good later : List NumberedLine) (after : SaidStatements) → LinesSay settings said good after → is_end_of_section later ≡ true → by_statements named settings said (good ++ later) ≡ Ok (table_from named settings after)
  statements-end said [] [] after say ends = ap (λ s. Ok (table_from named settings s)) say
  statements-end said [] (l ∷ ls) after say ends =
      cond-true _ _ _ ends
      ∙ ap (λ s. Ok (table_from named settings s)) say
  statements-end said (x ∷ xs) later after (next, says, more) ends =
      cond-false _ _ _ (says-no-section settings said x next says)
      ∙ ap (then_ok (λ next. by_statements named settings next (xs ++ later))) (step-says settings said x next says)
      ∙ statements-end next xs later after more ends

  statements-fault : (said : SaidStatements) (good : List NumberedLine) (line : NumberedLine) (later : List NumberedLine) (after : SaidStatements) (f : TableFault) → LinesSay settings said good after → begins_section line ≡ false → step_of settings after line ≡ Err f
      → by_statements named settings said (good ++ line ∷ later) ≡ Err f
  statements-fault said [] line later after f say inside fault =
      cond-false _ _ _ inside
      ∙ ap (λ s. then_ok (λ next. by_statements named settings next later) (step_of settings s line)) say
      ∙ ap (then_ok (λ next. by_statements named settings next later)) fault
  statements-fault said (x ∷ xs) line later after f (next, says, more) inside fault =
      cond-false _ _ _ (says-no-section settings said x next says)
      ∙ ap (then_ok (λ next. by_statements named settings next (xs ++ line ∷ later))) (step-says settings said x next says)
      ∙ statements-fault next xs line later after f more inside fault

-- a line that begins a section is no setting
pub section-no-setting : (line : NumberedLine) → begins_section line ≡ true → is_setting line ≡ false
section-no-setting (n, []) e = absurd (false≢true e)
section-no-setting (n, b ∷ bs) e =
    let same : b ≡ 64 = grind (arith, nat_tests) in
    ap (λ c. is_setting (n, c ∷ bs)) same

-- so statements follow the settings
pub tail_after-settings : (settings : Settings) (said : SaidStatements) (good later : List NumberedLine) (after : SaidStatements) → LinesSay settings said good after → is_end_of_section later ≡ true → follows_settings (good ++ later) ≡ true
tail_after-settings settings said [] [] after say ends = refl
tail_after-settings settings said [] (l ∷ ls) after say ends = ap not (section-no-setting l ends)
tail_after-settings settings said (x ∷ xs) later after (next, says, more) ends = ap not (says-no-setting settings said x next says)

-- ---- a text

-- a text of a table is read as that table
is-read : (bytes : List ℕ) (t : TableRule) → IsTable bytes t → reading bytes ≡ Ok t
is-read bytes t h =
    has-table bytes h.name (h.setting_lines ++ (h.statements ++ h.later)) h.has_table
    ∙ settings-end bytes h.name [] h.setting_lines (h.statements ++ h.later) h.mean.once (tail_after-settings h.settings no_statements h.statements h.later h.said h.say h.ends)
    ∙ ap (then_ok (from_nothing h.name (h.statements ++ h.later))) (settings-mean (number_at bytes (h.statements ++ h.later)) h.setting_lines h.settings h.mean)
    ∙ statements-end h.name h.settings no_statements h.statements h.later h.said h.say h.ends
    ∙ ap (λ x. Ok x) (sym h.table_is)

-- a text is that of one table at most
pub one_table : (bytes : List ℕ) (t u : TableRule) → IsTable bytes t → IsTable bytes u → t ≡ u
one_table bytes t u h k = ap (λ r. result_unwrap_or r t) (sym (is-read bytes t h) ∙ is-read bytes u k)

-- ---- faults

again-read : (bytes : List ℕ) (n : ℕ) → SetsAgain bytes n → reading bytes ≡ Err (Syntax n)
again-read bytes n a =
    has-table bytes a.name (a.good ++ a.line ∷ a.later) a.has_table ∙ settings-again bytes a.name [] a.good a.line a.later a.once a.again
    ∙ ap (λ m. Err (Syntax m)) (sym a.number)

settings-read : (bytes : List ℕ) (n : ℕ) (P : List NumberedLine → Type 0) (f : TableFault) (h : HasSettings bytes n P) → settings_of n h.0 ≡ Err f → reading bytes ≡ Err f
settings-read bytes n P f (lines, h, holds) e =
    has-table bytes h.name (lines ++ h.tail_after) h.has_table
    ∙ settings-end bytes h.name [] lines h.tail_after h.once h.ends
    ∙ ap (λ m. then_ok (from_nothing h.name h.tail_after) (settings_of m lines)) (sym h.number)
    ∙ ap (then_ok (from_nothing h.name h.tail_after)) e

statement-read : (bytes : List ℕ) (n : ℕ) (P : Settings → SaidStatements → NumberedLine → Type 0) (f : ℕ → TableFault) (h : HasStatement bytes n P) → step_of h.settings h.said h.line ≡ Err (f h.line.0) → reading bytes ≡ Err (f n)
statement-read bytes n P f h e =
    has-table bytes h.name (h.setting_lines ++ (h.good ++ h.line ∷ h.later)) h.has_table
    ∙ settings-end bytes h.name [] h.setting_lines (h.good ++ h.line ∷ h.later) h.mean.once h.ends
    ∙ ap (then_ok (from_nothing h.name (h.good ++ h.line ∷ h.later))) (settings-mean (number_at bytes (h.good ++ h.line ∷ h.later)) h.setting_lines h.settings h.mean)
    ∙ statements-fault h.name h.settings no_statements h.good h.line h.later h.said (f h.line.0) h.say h.in_table e
    ∙ ap (λ m. Err (f m)) (sym h.number)

abbrev fault_or : TableFault → Result TableRule TableFault → TableFault
fault_or f (Ok t) = f
fault_or f (Err g) = g

-- a fault by its kind: out of memory, one that is read, or that the table wakes
pub data FaultKind (bytes : List ℕ) : TableFault → Type 0 where
  OfMemory : FaultKind bytes Memory
  OfReading : {f : TableFault} → reading bytes ≡ Err f → FaultKind bytes f
  OfWaking : (t : TableRule) → IsTable bytes t → DoesWake t → FaultKind bytes (Wakes (last_line bytes))

-- what a fault is of
kind_of : (bytes : List ℕ) (f : TableFault) → IsTableTextFault bytes f → FaultKind bytes f
kind_of bytes (NoRuleLine n) h = OfReading (no-rule-line bytes (lines_said bytes) h.0 ∙ ap (λ m. Err (NoRuleLine m)) (sym h.1))
kind_of bytes (NoTable n) h = OfReading (no-table-line bytes (lines_said bytes) h.0 ∙ ap (λ m. Err (NoTable m)) (sym h.1))
kind_of bytes (Syntax n) (inl h) = OfReading (again-read bytes n h)
kind_of bytes (Syntax n) (inr h) = OfReading (statement-read bytes n IsMisspelled (λ m. Syntax m) h (step-misspelled h.settings h.said h.line h.holds))
kind_of bytes (States n) (inl h) = OfReading (settings-read bytes n LackStates (States n) h (lack-states n h.0 h.2))
kind_of bytes (States n) (inr h) = OfReading (statement-read bytes n HasBadState (λ m. States m) h (step-bad-state h.settings h.said h.line h.holds))
kind_of bytes (Neighborhood n) h = OfReading (settings-read bytes n LackNeighbourhood (Neighborhood n) h (lack-neighbourhood n h.0 h.2))
kind_of bytes (Symmetries n) h = OfReading (settings-read bytes n LackSymmetry (Symmetries n) h (lack-symmetry n h.0 h.2))
kind_of bytes (Variable n) h = OfReading (statement-read bytes n HasUnknownName (λ m. Variable m) h (step-unknown-name h.settings h.said h.line h.holds))
kind_of bytes (Unbound n) h = OfReading (statement-read bytes n HasUnbound (λ m. Unbound m) h (step-unbound h.settings h.said h.line h.holds))
kind_of bytes (Wakes n) (t, is, wakes, number) = subst (λ m. FaultKind bytes (Wakes m)) (sym number) (OfWaking t is wakes)
kind_of bytes Memory h = OfMemory

table-or-fault : (bytes : List ℕ) (t : TableRule) (f : TableFault) → IsTable bytes t → reading bytes ≡ Err f → ⊥
table-or-fault bytes t f is e = let k : Ok t ≡ Err f = sym (is-read bytes t is) ∙ e in true≢false (ap is_ok k)

none_by_kind : (bytes : List ℕ) (t : TableRule) (f : TableFault) → IsTable bytes t → FaultKind bytes f → (f ≡ Memory) ⊎ ((f ≡ Wakes (last_line bytes)) × DoesWake t)
none_by_kind bytes t f is OfMemory = inl refl
none_by_kind bytes t f is (OfReading e) = absurd (table-or-fault bytes t f is e)
none_by_kind bytes t f is (OfWaking u also wakes) = inr (refl, subst DoesWake (one_table bytes u t also is) wakes)

-- a text of a table has no fault but that it wakes, out of memory apart
pub none_of_a_table : (bytes : List ℕ) (t : TableRule) (f : TableFault) → IsTable bytes t → IsTableTextFault bytes f → (f ≡ Memory) ⊎ ((f ≡ Wakes (last_line bytes)) × DoesWake t)
none_of_a_table bytes t f is h = none_by_kind bytes t f is (kind_of bytes f h)

one_kind : (bytes : List ℕ) (f g : TableFault) → f ≢ Memory → g ≢ Memory → FaultKind bytes f → FaultKind bytes g → f ≡ g
one_kind bytes f g m n OfMemory k = absurd (m refl)
one_kind bytes f g m n (OfReading d) OfMemory = absurd (n refl)
one_kind bytes f g m n (OfReading d) (OfReading e) = ap (fault_or f) (sym d ∙ e)
one_kind bytes f g m n (OfReading d) (OfWaking t is wakes) = absurd (table-or-fault bytes t f is d)
one_kind bytes f g m n (OfWaking t is wakes) OfMemory = absurd (n refl)
one_kind bytes f g m n (OfWaking t is wakes) (OfReading e) = absurd (table-or-fault bytes t g is e)
one_kind bytes f g m n (OfWaking t is wakes) (OfWaking u also others) = refl

-- a text has one fault at most, out of memory apart
pub one_fault : (bytes : List ℕ) (f g : TableFault) → f ≢ Memory → g ≢ Memory → IsTableTextFault bytes f → IsTableTextFault bytes g → f ≡ g
one_fault bytes f g m n h k = one_kind bytes f g m n (kind_of bytes f h) (kind_of bytes g k)

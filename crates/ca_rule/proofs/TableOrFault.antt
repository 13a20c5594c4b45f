-- Every text is the text of a table, or has a fault.
use Rattle.std.proofs.Common.{◌≡◌, ◌≢◌, ℕ, ◌≤◌, ◌⊎◌, Bool, true, false, not, ◌||◌, List, [], ◌∷◌, ◌++◌, length, replicate, Option, Some, None, option_map, nat_lt, refl, sym, ap, subst, ◌∙◌, arith, inl, inr, true≢false, append_assoc, append-nil}
use Rattle.std.specs.List.{list_all, list_any, AllZip}
use Rattle.std.proofs.lemmas.Bool.{cases_Bool, cases_eq, and_parts, or_from, or_parts}
use Rattle.std.proofs.lemmas.Bool.Decides.{nat_tests}
use Rattle.ca_plane.specs.Prelude.{value}
use Rattle.ca_rule.specs.declared.table.{fault.TableFault.TableFault, neighbourhood.Neighbourhood.Neighbourhood, neighbourhood.Symmetry.Symmetry, slot.Slot.Slot}
use Rattle.ca_rule.specs.declared.table.fault.TableFault.TheVariants.{NoRuleLine, NoTable, Syntax, States, Neighborhood, Symmetries, Unbound, Wakes, Memory}
use Rattle.ca_rule.specs.declared.table.fault.TableFault.TheVariants as faults
use Rattle.ca_rule.specs.declared.table.slot.Slot.TheVariants.{Number, Variable}
use Rattle.ca_rule.specs.Prelude.{TableRule, table_next, are_digits, NumberedLine, lines_said, last_line, rule_name, begins_table, begins_section, is_setting, states_set, neighbourhood_set}
use Rattle.ca_rule.specs.Prelude.{symmetry_set, is_name, is_field, IsVariableLine, IsTransitionLine, HasTable, sets_again, are_settings, Settings, SettingsMean, SaidStatements, no_statements}
use Rattle.ca_rule.specs.Prelude.{number_of, StandsFor, is_bound, field_count, LinesSay, table_from, is_end_of_section, IsTable, number_at, follows_settings, HasNoRuleLine, HasNoTable, HaveEnd}
use Rattle.ca_rule.specs.Prelude.{HasStatement, IsMisspelled, HasFields, HasBadField, HasBadState, HasUnknownName, HasUnbound, IsTableTextFault}
use Rattle.ca_rule.specs.inner.TableSaid.{with_variable}
use Rattle.ca_rule.proofs.OneSpelling.{some_if, variable_of, variable-is-of, variable-of-is, transition_of, transition-is-of, transition-of-is}
use Rattle.ca_rule.proofs.OneStatement.{slot_if, slot_of, slot-stands, inputs_of, result_of, with_transition, Says}
use Rattle.ca_rule.proofs.SettingsRead.{settings-snoc}
use Rattle.ca_rule.proofs.StatementsRead.{bad-field, has-statement}

-- ---- fields

-- the first field that stands for nothing
record FirstBad (settings : Settings) (said : SaidStatements) (fields : List (List ℕ)) : Type 0 where
  good : List (List ℕ)
  slots : List Slot
  field : List ℕ
  later : List (List ℕ)
  whole : fields ≡ good ++ field ∷ later
  stand : AllZip (StandsFor settings said) good slots
  is : is_field field ≡ true
  none : slot_of settings said field ≡ None

-- fields stand for slots, or one of them is the first that doesn't
abbrev FieldsOrBad : Settings → SaidStatements → List (List ℕ) → Type 0
FieldsOrBad settings said fields = ((slots : List Slot) × AllZip (StandsFor settings said) fields slots) ⊎ FirstBad settings said fields

some-none : {A : Type 0} (b : Bool) (x : A) → some_if b x ≡ None → b ≡ false
some-none true x e = cc
some-none false x e = refl

map-none : {A B : Type 0} (f : A → B) (o : Option A) → option_map f o ≡ None → o ≡ None
map-none f None e = refl
map-none f (Some x) e = cc

module _ (settings : Settings) (said : SaidStatements) where
  one-more : (f : List ℕ) (fs : List (List ℕ)) (o : Option Slot) → is_field f ≡ true → slot_of settings said f ≡ o → FieldsOrBad settings said fs → FieldsOrBad settings said (f ∷ fs)
  one-more f fs None is e later = inr (record { good = []; slots = []; field = f; later = fs; whole = refl; stand = tt; is = is; none = e })
  one-more f fs (Some s) is e (inl l) = inl (s ∷ l.0, (slot-stands settings said f s is e, l.1))
  one-more f fs (Some s) is e (inr b) = inr (record {
    good = f ∷ b.good;
    slots = s ∷ b.slots;
    field = b.field;
    later = b.later;
    whole = ap (λ l. f ∷ l) b.whole;
    stand = (slot-stands settings said f s is e, b.stand);
    is = b.is;
    none = b.none;
  })

  fields-or-bad : (fields : List (List ℕ)) → list_all is_field fields ≡ true → FieldsOrBad settings said fields
  fields-or-bad [] all = inl ([], tt)
  fields-or-bad (f ∷ fs) all =
      let parts = and_parts (is_field f) (list_all is_field fs) all in
      one-more f fs (slot_of settings said f) parts.0 refl (fields-or-bad fs parts.1)

  high-state : (field : List ℕ) → are_digits field ≡ true → slot_of settings said field ≡ None → settings.states ≤ value field
  high-state field d none =
      let test = some-none (nat_lt (value field) settings.states) (Number (value field))
      (ap (slot_if settings said field) (sym d) ∙ none) in
      grind (arith, nat_tests)

  no-number : (field : List ℕ) → are_digits field ≡ false → slot_of settings said field ≡ None → number_of 0 said.variables field ≡ None
  no-number field d none = map-none Variable (number_of 0 said.variables field)
      (ap (slot_if settings said field) (sym d) ∙ none)

-- ---- lines

-- what is wrong with a line that says nothing
pub data IsBadLine (settings : Settings) (said : SaidStatements) (line : NumberedLine) : Type 0 where
  Misspelled : IsMisspelled settings said line → IsBadLine settings said line
  BadState : HasBadState settings said line → IsBadLine settings said line
  UnknownName : HasUnknownName settings said line → IsBadLine settings said line
  NoInput : HasUnbound settings said line → IsBadLine settings said line

-- a line says something, or something is wrong with it
abbrev SaysOrBad : Settings → SaidStatements → NumberedLine → Type 0
SaysOrBad settings said line = ((next : SaidStatements) × Says settings said line next) ⊎ IsBadLine settings said line

-- slots are those but the last, and the last
split-last : (slots : List Slot) → 1 ≤ length slots → slots ≡ inputs_of slots ++ result_of slots ∷ []
split-last [] some = absurd (omega arith)
split-last (s ∷ []) some = refl
split-last (s ∷ t ∷ ss) some = ap (λ l. s ∷ l) (split-last (t ∷ ss) (omega arith))

pub zip-length : (R : List ℕ → Slot → Type 0) (xs : List (List ℕ)) (ys : List Slot) → AllZip R xs ys → length xs ≡ length ys
zip-length R [] [] h = refl
zip-length R [] (y ∷ ys) h = absurd h
zip-length R (x ∷ xs) [] h = absurd h
zip-length R (x ∷ xs) (y ∷ ys) h = let more = zip-length R xs ys h.1 in omega arith

module _ (settings : Settings) (said : SaidStatements) (line : NumberedLine) where
  first-bad : (P : List ℕ → Type 0) (fields : List (List ℕ)) → HasFields settings line fields → (b : FirstBad settings said fields) → P b.field → HasBadField settings said line P
  first-bad P fields spelled b = bad-field settings said line P fields b.good b.later b.slots b.field spelled b.whole b.stand

  field-fault : (fields : List (List ℕ)) → HasFields settings line fields → FirstBad settings said fields → IsBadLine settings said line
  field-fault fields spelled b = elim (cases_Bool (are_digits b.field)) [
    | inl d ↦ BadState (first-bad (λ field. (are_digits field ≡ true) × (settings.states ≤ value field)) fields spelled b (d, high-state settings said b.field d b.none))
    | inr d ↦
        let name : is_name b.field ≡ true = ap (λ v. v || is_name b.field) (sym d) ∙ b.is in
        UnknownName (first-bad (λ field. (is_name field ≡ true) × (number_of 0 said.variables field ≡ None)) fields spelled b (name, no-number settings said b.field d b.none))
  ]

  variable-or-bad : (name : List ℕ) (fields : List (List ℕ)) → IsVariableLine line name fields → SaysOrBad settings said line
  variable-or-bad name fields v = elim (fields-or-bad settings said fields v.are_fields) [
    | inl s ↦ inl (with_variable settings said name s.0, inl (record { name = name; fields = fields; slots = s.0; spelled = v; stand = s.1; after_is = refl }))
    | inr b ↦ inr (field-fault fields (inl (name, v)) b)
  ]

  bound-or-bad : (fields : List (List ℕ)) (inputs : List Slot) (result : Slot) → IsTransitionLine line (field_count settings) fields → AllZip (StandsFor settings said) fields (inputs ++ result ∷ []) → SaysOrBad settings said line
  bound-or-bad fields inputs result t stand = elim (cases_Bool (is_bound result inputs)) [
    | inl b ↦ inl (with_transition said inputs result, inr (record { fields = fields; inputs = inputs; result = result; spelled = t; stand = stand; holds = (b, refl) }))
    | inr b ↦ inr (NoInput (record { fields = fields; inputs = inputs; result = result; spelled = t; stand = stand; holds = b }))
  ]

  transition-or-bad : (fields : List (List ℕ)) → IsTransitionLine line (field_count settings) fields → SaysOrBad settings said line
  transition-or-bad fields t = elim (fields-or-bad settings said fields t.are_fields) [
    | inl s ↦
        let same = zip-length (StandsFor settings said) fields s.0 s.1 in
        let count = t.count in
        let some : 1 ≤ length s.0 = omega arith in
        bound-or-bad fields (inputs_of s.0) (result_of s.0) t (subst (AllZip (StandsFor settings said) fields) (split-last s.0 some) s.1)
    | inr b ↦ inr (field-fault fields (inr t) b)
  ]

  spelled-or-bad : (v : Option (List ℕ × List (List ℕ))) (t : Option (List (List ℕ))) → variable_of line ≡ v → transition_of (field_count settings) line ≡ t → SaysOrBad settings said line
  spelled-or-bad (Some v) t d e = variable-or-bad v.0 v.1 (variable-of-is line v d)
  spelled-or-bad None (Some t) d e = transition-or-bad t (transition-of-is line (field_count settings) t e)
  spelled-or-bad None None d e = inr (Misspelled (
    (λ name fields v. let k = sym d ∙ variable-is-of line name fields v in cc),
    λ fields t. let k = sym e ∙ transition-is-of line (field_count settings) fields t in cc,
  ))

  says-or-bad : SaysOrBad settings said line
  says-or-bad = spelled-or-bad (variable_of line) (transition_of (field_count settings) line) refl refl

-- ---- a text

-- the text is that of a table that leaves the empty plane empty, or has a fault, and it isn't out of memory
abbrev pub TableOrFault : List ℕ → Type 0
TableOrFault bytes = ((t : TableRule) × IsTable bytes t × (table_next t (replicate 9 0) ≡ 0)) ⊎ ((f : TableFault) × (f ≢ Memory) × IsTableTextFault bytes f)

abbrev is_memory : TableFault → Bool
is_memory Memory = true
is_memory f = false

other-than-memory : (f : TableFault) → is_memory f ≡ false → f ≢ Memory
other-than-memory f other e = true≢false (sym (ap is_memory e) ∙ other)

quiet-or-wakes : (bytes : List ℕ) (t : TableRule) → IsTable bytes t → TableOrFault bytes
quiet-or-wakes bytes t is = elim (cases_eq (table_next t (replicate 9 0)) 0) [
  | inl quiet ↦ inl (t, is, quiet)
  | inr wakes ↦ inr (Wakes (last_line bytes), other-than-memory (Wakes (last_line bytes)) refl, (t, is, wakes, refl))
]

say-then : (settings : Settings) (said : SaidStatements) (good : List NumberedLine) (line : NumberedLine) (after next : SaidStatements) → LinesSay settings said good after → Says settings after line next → LinesSay settings said (good ++ line ∷ []) next
say-then settings said [] line after next say says = (next, subst (λ s. Says settings s line next) (sym say) says, refl)
say-then settings said (x ∷ xs) line after next (other, one, more) says = (other, one, say-then settings other xs line after next more says)

module _ (bytes named : List ℕ) (setting_lines : List NumberedLine) (settings : Settings) (mean : SettingsMean setting_lines settings) where
  -- these lines follow good statements
  record BehindStatements (good : List NumberedLine) (said : SaidStatements) (left : List NumberedLine) : Type 0 where
    has_table : HasTable bytes named (setting_lines ++ (good ++ left))
    ends : follows_settings (good ++ left) ≡ true
    say : LinesSay settings no_statements good said

  statement-fault : (P : Settings → SaidStatements → NumberedLine → Type 0) (good : List NumberedLine) (said : SaidStatements) (line : NumberedLine) (later : List NumberedLine) → BehindStatements good said (line ∷ later) → begins_section line ≡ false → P settings said line → HasStatement bytes line.0 P
  statement-fault P good said line later b inside holds = has-statement bytes named setting_lines good later settings said line mean b.has_table b.ends b.say inside P holds

  bad-line : (good : List NumberedLine) (said : SaidStatements) (line : NumberedLine) (later : List NumberedLine) → BehindStatements good said (line ∷ later) → begins_section line ≡ false → IsBadLine settings said line → TableOrFault bytes
  bad-line good said line later b inside (Misspelled h) = inr (Syntax line.0, other-than-memory (Syntax line.0) refl, inr (statement-fault IsMisspelled good said line later b inside h))
  bad-line good said line later b inside (BadState h) = inr (States line.0, other-than-memory (States line.0) refl, inr (statement-fault HasBadState good said line later b inside h))
  bad-line good said line later b inside (UnknownName h) = inr (faults.Variable line.0, other-than-memory (faults.Variable line.0) refl, statement-fault HasUnknownName good said line later b inside h)
  bad-line good said line later b inside (NoInput h) = inr (Unbound line.0, other-than-memory (Unbound line.0) refl, statement-fault HasUnbound good said line later b inside h)

  all-read : (good : List NumberedLine) (said : SaidStatements) (left : List NumberedLine) → BehindStatements good said left → is_end_of_section left ≡ true → TableOrFault bytes
  all-read good said left b ends = quiet-or-wakes bytes (table_from named settings said) (record {
    name = named;
    setting_lines = setting_lines;
    statements = good;
    later = left;
    settings = settings;
    said = said;
    has_table = b.has_table;
    mean = mean;
    say = b.say;
    ends = ends;
    table_is = refl;
  })

  statements-or-fault : (good : List NumberedLine) (said : SaidStatements) (left : List NumberedLine) → BehindStatements good said left → TableOrFault bytes
  statements-or-fault good said [] b = all-read good said [] b refl
  statements-or-fault good said (l ∷ ls) b = elim (cases_Bool (begins_section l)) [
    | inl s ↦ all-read good said (l ∷ ls) b s
    | inr s ↦ elim (says-or-bad settings said l) [
      | inl n ↦ statements-or-fault (good ++ l ∷ []) n.0 ls (record {
        has_table = subst (λ lines. HasTable bytes named (setting_lines ++ lines)) (sym (append_assoc good (l ∷ []) ls)) b.has_table;
        ends = ap follows_settings (append_assoc good (l ∷ []) ls) ∙ b.ends;
        say = say-then settings no_statements good l said n.0 b.say n.1;
      })
      | inr h ↦ bad-line good said l ls b s h
    ]
  ]

-- ---- settings

module _ (bytes : List ℕ) where
  symmetry-or-fault : (n count : ℕ) (good : List NumberedLine) (of : Neighbourhood) (under : Option Symmetry) → HaveEnd bytes n good → states_set good ≡ Some count → neighbourhood_set good ≡ Some of → symmetry_set of good ≡ under → TableOrFault bytes
  symmetry-or-fault n count good of None h s k e = inr (Symmetries n, other-than-memory (Symmetries n) refl, (good, h, (count, of, s, k, e)))
  symmetry-or-fault n count good of (Some under) h s k e =
      statements-or-fault bytes h.name good (record { states = count; neighbourhood = of; symmetry = under }) (record { once = h.once; states_are = s; neighbourhood_is = k; symmetry_is = e }) [] no_statements h.tail_after
      (record { has_table = h.has_table; ends = h.ends; say = refl })

  neighbourhood-or-fault : (n count : ℕ) (good : List NumberedLine) (of : Option Neighbourhood) → HaveEnd bytes n good → states_set good ≡ Some count → neighbourhood_set good ≡ of → TableOrFault bytes
  neighbourhood-or-fault n count good None h s e = inr (Neighborhood n, other-than-memory (Neighborhood n) refl, (good, h, (count, s, e)))
  neighbourhood-or-fault n count good (Some of) h s e = symmetry-or-fault n count good of (symmetry_set of good) h s e refl

  states-or-fault : (n : ℕ) (good : List NumberedLine) (count : Option ℕ) → HaveEnd bytes n good → states_set good ≡ count → TableOrFault bytes
  states-or-fault n good None h e = inr (States n, other-than-memory (States n) refl, inl (good, h, e))
  states-or-fault n good (Some count) h e = neighbourhood-or-fault n count good (neighbourhood_set good) h e refl

  ended : (named : List ℕ) (good tail_after : List NumberedLine) → HasTable bytes named (good ++ tail_after) → are_settings [] good ≡ true → follows_settings tail_after ≡ true → TableOrFault bytes
  ended named good tail_after has once ends =
      states-or-fault (number_at bytes tail_after) good (states_set good) (record { name = named; tail_after = tail_after; has_table = has; once = once; ends = ends; number = refl }) refl

  settings-or-fault : (named : List ℕ) (good left : List NumberedLine) → HasTable bytes named (good ++ left) → are_settings [] good ≡ true → TableOrFault bytes
  settings-or-fault named good [] has once = ended named good [] has once refl
  settings-or-fault named good (l ∷ ls) has once = elim (cases_Bool (is_setting l)) [
    | inl s ↦ elim (cases_Bool (sets_again good l)) [
      | inl a ↦ inr (Syntax l.0, other-than-memory (Syntax l.0) refl, inl (record { name = named; good = good; line = l; later = ls; has_table = has; once = once; again = a; number = refl }))
      | inr a ↦ settings-or-fault named (good ++ l ∷ []) ls (subst (HasTable bytes named) (sym (append_assoc good (l ∷ []) ls)) has) (settings-snoc [] good l once s a)
    ]
    | inr s ↦ ended named good (l ∷ ls) has once (ap not s)
  ]

-- ---- the head

any-then : (skipped : List NumberedLine) (l : NumberedLine) → list_any begins_table skipped ≡ false → begins_table l ≡ false → list_any begins_table (skipped ++ l ∷ []) ≡ false
any-then [] l none other = or_from (begins_table l) false other refl
any-then (s ∷ ss) l none other =
    let parts = or_parts (begins_table s) (list_any begins_table ss) none in
    or_from (begins_table s) (list_any begins_table (ss ++ l ∷ [])) parts.0 (any-then ss l parts.1 other)

lines-or-fault : (bytes named : List ℕ) (rule_line : NumberedLine) (skipped left : List NumberedLine) → rule_name rule_line ≡ Some named → list_any begins_table skipped ≡ false → lines_said bytes ≡ rule_line ∷ (skipped ++ left) → TableOrFault bytes
lines-or-fault bytes named rule_line skipped [] is none whole =
    inr (
      NoTable (last_line bytes),
      other-than-memory (NoTable (last_line bytes)) refl,
      (subst HasNoTable (sym (whole ∙ ap (λ l. rule_line ∷ l) (append-nil skipped))) (named, is, none), refl),
    )
lines-or-fault bytes named rule_line skipped (l ∷ ls) is none whole = elim (cases_Bool (begins_table l)) [
  | inl t ↦ settings-or-fault bytes named [] ls (record { rule_line = rule_line; skipped = skipped; table_line = l; named = is; no_table = none; begins = t; whole = whole }) refl
  | inr t ↦ lines-or-fault bytes named rule_line (skipped ++ l ∷ []) ls is (any-then skipped l none t) (whole ∙ ap (λ k. rule_line ∷ k) (sym (append_assoc skipped (l ∷ []) ls)))
]

no-name : (bytes : List ℕ) (lines : List NumberedLine) → lines_said bytes ≡ lines → HasNoRuleLine lines → TableOrFault bytes
no-name bytes lines e none =
    inr (NoRuleLine (number_at bytes lines), other-than-memory (NoRuleLine (number_at bytes lines)) refl, (subst HasNoRuleLine (sym e) none, ap (number_at bytes) (sym e)))

named-or-fault : (bytes : List ℕ) (l : NumberedLine) (ls : List NumberedLine) (named : Option (List ℕ)) → lines_said bytes ≡ l ∷ ls → rule_name l ≡ named → TableOrFault bytes
named-or-fault bytes l ls None e is = no-name bytes (l ∷ ls) e is
named-or-fault bytes l ls (Some named) e is = lines-or-fault bytes named l [] ls is refl e

said-or-fault : (bytes : List ℕ) (lines : List NumberedLine) → lines_said bytes ≡ lines → TableOrFault bytes
said-or-fault bytes [] e = no-name bytes [] e tt
said-or-fault bytes (l ∷ ls) e = named-or-fault bytes l ls (rule_name l) e refl

-- every text is the text of a quiet table, or has a fault
pub one_or_the_other : (bytes : List ℕ) → TableOrFault bytes
one_or_the_other bytes = said-or-fault bytes (lines_said bytes) refl

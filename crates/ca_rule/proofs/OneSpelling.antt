-- A line of a rule table is spelled in one way at most.
use Rattle.std.proofs.Common.{◌≡◌, ℕ, Bool, true, false, ◌&&◌, ◌||◌, ◌==◌, List, [], ◌∷◌, ◌++◌, length, map, Option, Some, None, is_some, option_map, option_and_then, unwrap_or, codes, if◌then◌else◌, refl, sym, ap, subst, ◌∙◌, arith, inl, inr, eq-eqb, true≢false}
use Rattle.std.specs.List.{list_all, list_any}
use Rattle.std.proofs.lemmas.Bool.{cases_Bool, or_cases, and_parts, and_from, or_from, or_left, or_right, false≢true, cond-true, cond-false}
use Rattle.std.proofs.lemmas.Bool.Decides.{nat_tests}
use Rattle.ca_plane.specs.Prelude.{is_blank, is_digit, front, rest, without_last_blanks, trimmed, with_front}
use Rattle.ca_plane.proofs.Fronts.{front_then_rest, every_right, every_wider}
use Rattle.ca_rule.specs.Prelude.{are_digits, NumberedLine, tail_after, setting, setting_words, is_setting, begins_with, begins_section, begins_variable, is_name_byte, is_name, is_field, comma_parts}
use Rattle.ca_rule.specs.Prelude.{fields_between, fields_of, IsVariableLine, IsTransitionLine}
use Rattle.ca_rule.specs.inner.TableFields.{after_brace}
use Rattle.ca_rule.proofs.TextTails.{tail_after-whole}
use Rattle.ca_rule.proofs.VariableLines.{parts-of-line, line-of-parts, opened-braced, braced-opened}

-- ---- where something is some

pub map-some : {A B : Type 0} (f : A → B) (o : Option A) (y : B) → option_map f o ≡ Some y → (x : A) × (o ≡ Some x) × (f x ≡ y)
map-some f None y e = cc
map-some f (Some x) y e = (x, refl, ap (λ o. unwrap_or o (f x)) e)

pub then-some : {A B : Type 0} (f : A → Option B) (o : Option A) (y : B) → option_and_then f o ≡ Some y → (x : A) × (o ≡ Some x) × (f x ≡ Some y)
then-some f None y e = cc
then-some f (Some x) y e = (x, refl, e)

-- the value, where the test is passed
abbrev pub some_if : {A : Type 0} → Bool → A → Option A
some_if true x = Some x
some_if false x = None

pub some-if : {A : Type 0} (b : Bool) (x y : A) → some_if b x ≡ Some y → (b ≡ true) × (x ≡ y)
some-if true x y e = (refl, ap (λ o. unwrap_or o x) e)
some-if false x y e = cc

-- ---- a variable's line

-- the bytes before a last brace
abbrev before_brace : List ℕ → Option (List ℕ)
before_brace [] = None
before_brace (b ∷ []) = some_if (b == 125) []
before_brace (b ∷ c ∷ bs) = option_map (λ l. b ∷ l) (before_brace (c ∷ bs))

before-brace : (inside : List ℕ) → before_brace (inside ++ codes "}") ≡ Some inside
before-brace [] = refl
before-brace (b ∷ []) = refl
before-brace (b ∷ c ∷ bs) = ap (option_map (λ l. b ∷ l)) (before-brace (c ∷ bs))

brace-before : (bytes inside : List ℕ) → before_brace bytes ≡ Some inside → bytes ≡ inside ++ codes "}"
brace-before [] inside e = cc
brace-before (b ∷ []) inside e =
    let parts = some-if (b == 125) [] inside e in
    let same : b ≡ 125 = let k = parts.0 in grind (arith, nat_tests) in
    ap (λ x. x ∷ []) same ∙ ap (λ l. l ++ codes "}") parts.1
brace-before (b ∷ c ∷ bs) inside e =
    let m = map-some (λ l. b ∷ l) (before_brace (c ∷ bs)) inside e in
    ap (λ l. b ∷ l) (brace-before (c ∷ bs) m.0 m.1) ∙ ap (λ l. l ++ codes "}") m.2

-- the name and the fields, where they are spelled as such
abbrev named_fields : List ℕ → List ℕ → Option (List ℕ × List (List ℕ))
named_fields name inside = some_if (is_name name && list_all is_field (fields_between inside)) (name, fields_between inside)

-- the name after `var`, and what follows it
abbrev name_in : List ℕ → List ℕ
name_in more = front is_name_byte (rest is_blank more)

abbrev tail_in : List ℕ → List ℕ
tail_in more = rest is_name_byte (rest is_blank more)

-- what the bytes after `var` spell
abbrev variable_in : List ℕ → Option (List ℕ × List (List ℕ))
variable_in more = option_and_then (named_fields (name_in more)) (option_and_then before_brace (after_brace (tail_in more)))

abbrev variable_if : Bool → List ℕ → Option (List ℕ × List (List ℕ))
variable_if begins more = if begins then variable_in more else None

-- the name and the fields of a variable's line
abbrev pub variable_of : NumberedLine → Option (List ℕ × List (List ℕ))
variable_of line = option_and_then (variable_if (begins_variable line)) (tail_after (codes "var") line.1)

pub variable-is-of : (line : NumberedLine) (name : List ℕ) (fields : List (List ℕ)) → IsVariableLine line name fields → variable_of line ≡ Some (name, fields)
variable-is-of line name fields v =
    let p = parts-of-line line name fields v in
    let inside = ap (option_and_then before_brace) (opened-braced (tail_in p.more) v.inside p.braces) ∙ before-brace v.inside in
    let good = and_from (is_name name) (list_all is_field (fields_between v.inside)) v.named (ap (list_all is_field) v.fields_are ∙ v.are_fields) in
    ap (option_and_then (variable_if (begins_variable line))) p.is_var
    ∙ cond-true _ _ _ v.begins
    ∙ ap (option_and_then (named_fields (name_in p.more))) inside
    ∙ ap (λ n. named_fields n v.inside) p.name_is
    ∙ ap (λ b. some_if b (name, fields_between v.inside)) good
    ∙ ap (λ fs. Some (name, fs)) v.fields_are

pub if-some : {A : Type 0} (b : Bool) (o : Option A) (y : A) → (if b then o else None) ≡ Some y → (b ≡ true) × (o ≡ Some y)
if-some true o y e = (refl, e)
if-some false o y e = cc

pub variable-of-is : (line : NumberedLine) (v : List ℕ × List (List ℕ)) → variable_of line ≡ Some v → IsVariableLine line v.0 v.1
variable-of-is line v e =
    let m = then-some (variable_if (begins_variable line)) (tail_after (codes "var") line.1) v e in
    let begun = if-some (begins_variable line) (variable_in m.0) v m.2 in
    let i = then-some (named_fields (name_in m.0)) (option_and_then before_brace (after_brace (tail_in m.0))) v begun.1 in
    let o = then-some before_brace (after_brace (tail_in m.0)) i.0 i.1 in
    let good = some-if (is_name (name_in m.0) && list_all is_field (fields_between i.0)) (name_in m.0, fields_between i.0) v i.2 in
    let both_lists = and_parts (is_name (name_in m.0)) (list_all is_field (fields_between i.0)) good.0 in
    subst (λ (w : List ℕ × List (List ℕ)). IsVariableLine line w.0 w.1) good.1 (line-of-parts line (name_in m.0) i.0 begun.0
    (record { more = m.0; is_var = m.1; name_is = refl; braces = braced-opened (tail_in m.0) i.0 o.0 o.1 (brace-before o.0 i.0 o.2) }) both_lists.0 both_lists.1)

-- ---- a transition

-- the fields, where there are `slots` of them
abbrev so_many : ℕ → List (List ℕ) → Option (List (List ℕ))
so_many slots fields = some_if (list_all is_field fields && (length fields == slots)) fields

-- the fields of a transition of this many slots
abbrev pub transition_of : ℕ → NumberedLine → Option (List (List ℕ))
transition_of slots line = if begins_variable line then None else so_many slots (fields_of line)

pub transition-is-of : (line : NumberedLine) (slots : ℕ) (fields : List (List ℕ)) → IsTransitionLine line slots fields → transition_of slots line ≡ Some fields
transition-is-of line slots fields t =
    let good = and_from (list_all is_field fields) (length fields == slots) t.are_fields (eq-eqb (length fields) slots t.count) in
    cond-false _ _ _ t.no_variable
    ∙ ap (so_many slots) t.fields_are
    ∙ ap (λ b. some_if b fields) good

unless-some : {A : Type 0} (b : Bool) (o : Option A) (y : A) → (if b then None else o) ≡ Some y → (b ≡ false) × (o ≡ Some y)
unless-some true o y e = cc
unless-some false o y e = (refl, e)

pub transition-of-is : (line : NumberedLine) (slots : ℕ) (fields : List (List ℕ)) → transition_of slots line ≡ Some fields → IsTransitionLine line slots fields
transition-of-is line slots fields e =
    let u = unless-some (begins_variable line) (so_many slots (fields_of line)) fields e in
    let s = some-if (list_all is_field (fields_of line) && (length (fields_of line) == slots)) (fields_of line) fields u.1 in
    let both_lists = and_parts (list_all is_field (fields_of line)) (length (fields_of line) == slots) s.0 in
    let count : length (fields_of line) ≡ slots = let k = both_lists.1 in grind (arith, nat_tests) in
    record {
      no_variable = u.0;
      fields_are = s.1;
      are_fields = ap (list_all is_field) (sym s.1) ∙ both_lists.0;
      count = ap length (sym s.1) ∙ count;
    }

-- ---- no setting and no section is a statement

-- a byte that may be in a transition
abbrev stands_in_one : ℕ → Bool
stands_in_one b = is_blank b || ((b == 44) || (is_digit b || is_name_byte b))

digit-stands : (b : ℕ) → is_digit b ≡ true → stands_in_one b ≡ true
digit-stands b e = or_right (is_blank b) _ (or_right (b == 44) _ (or_left (is_digit b) (is_name_byte b) e))

name-stands : (b : ℕ) → is_name_byte b ≡ true → stands_in_one b ≡ true
name-stands b e = or_right (is_blank b) _ (or_right (b == 44) _ (or_right (is_digit b) (is_name_byte b) e))

field-stands : (field : List ℕ) → is_field field ≡ true → list_all stands_in_one field ≡ true
field-stands field e = elim (or_cases (are_digits field) (is_name field) e) [
  | inl d ↦ every_wider is_digit stands_in_one digit-stands field (and_parts _ (list_all is_digit field) d).1
  | inr n ↦ every_wider is_name_byte stands_in_one name-stands field (and_parts _ (list_all is_name_byte field) n).1
]

-- blanks may be there too
tail_after-blanks : (bytes : List ℕ) → list_all stands_in_one (rest is_blank bytes) ≡ true → list_all stands_in_one bytes ≡ true
tail_after-blanks [] all = refl
tail_after-blanks (b ∷ bs) all = elim (cases_Bool (is_blank b)) [
  | inl t ↦ and_from (stands_in_one b) (list_all stands_in_one bs) (or_left (is_blank b) _ t) (tail_after-blanks bs (let k = rw t at all in k))
  | inr t ↦ let k = rw t at all in k
]

before-blanks : (bytes : List ℕ) → list_all stands_in_one (without_last_blanks bytes) ≡ true → list_all stands_in_one bytes ≡ true
before-blanks [] all = refl
before-blanks (b ∷ bs) all = elim (cases_Bool (list_all is_blank (b ∷ bs))) [
  | inl t ↦ every_wider is_blank stands_in_one (λ c e. or_left (is_blank c) _ e) (b ∷ bs) t
  | inr t ↦
      let k : list_all stands_in_one (b ∷ without_last_blanks bs) ≡ true = ap (λ v. list_all stands_in_one (if v then [] else b ∷ without_last_blanks bs)) (sym t) ∙ all in
      let parts = and_parts (stands_in_one b) (list_all stands_in_one (without_last_blanks bs)) k in
      and_from (stands_in_one b) (list_all stands_in_one bs) parts.0 (before-blanks bs parts.1)
]

-- a test that all bytes of some lists pass, the first of them with a byte in front, is passed by that byte and by all of theirs
pub with_front-every : (test : ℕ → Bool) (b : ℕ) (parts : List (List ℕ)) → list_all (list_all test) (with_front b parts) ≡ true → (test b ≡ true) × (list_all (list_all test) parts ≡ true)
with_front-every test b [] all = ((and_parts (test b) true (and_parts (test b && true) true all).0).0, refl)
with_front-every test b (p ∷ ps) all =
    let one = and_parts (test b && list_all test p) (list_all (list_all test) ps) all in
    let two = and_parts (test b) (list_all test p) one.0 in
    (two.0, and_from (list_all test p) (list_all (list_all test) ps) two.1 one.1)

parts-stand : (bytes : List ℕ) → list_all (list_all stands_in_one) (comma_parts bytes) ≡ true → list_all stands_in_one bytes ≡ true
parts-stand [] all = refl
parts-stand (b ∷ bs) all = elim (cases_Bool (b == 44)) [
  | inl t ↦ and_from (stands_in_one b) (list_all stands_in_one bs) (or_right (is_blank b) _ (or_left (b == 44) _ t)) (parts-stand bs (ap (λ v. list_all (list_all stands_in_one) (if v then [] ∷ comma_parts bs else with_front b (comma_parts bs))) (sym t) ∙ all))
  | inr t ↦
      let parts = with_front-every stands_in_one b (comma_parts bs) (ap (λ v. list_all (list_all stands_in_one) (if v then [] ∷ comma_parts bs else with_front b (comma_parts bs))) (sym t) ∙ all) in
      and_from (stands_in_one b) (list_all stands_in_one bs) parts.0 (parts-stand bs parts.1)
]

fields-stand : (parts : List (List ℕ)) → list_all is_field (map trimmed parts) ≡ true → list_all (list_all stands_in_one) parts ≡ true
fields-stand [] all = refl
fields-stand (p ∷ ps) all =
    let parts = and_parts (is_field (trimmed p)) (list_all is_field (map trimmed ps)) all in
    and_from (list_all stands_in_one p) (list_all (list_all stands_in_one) ps) (tail_after-blanks p (before-blanks (rest is_blank p) (field-stands (trimmed p) parts.0))) (fields-stand ps parts.1)

bytes-stand : (bytes : List ℕ) → list_all is_field (map (λ b. b ∷ []) bytes) ≡ true → list_all stands_in_one bytes ≡ true
bytes-stand [] all = refl
bytes-stand (b ∷ bs) all =
    let parts = and_parts (is_field (b ∷ [])) (list_all is_field (map (λ b. b ∷ []) bs)) all in
    and_from (stands_in_one b) (list_all stands_in_one bs) (and_parts (stands_in_one b) true (field-stands (b ∷ []) parts.0)).0 (bytes-stand bs parts.1)

line-stands : (line : NumberedLine) (slots : ℕ) (fields : List (List ℕ)) → IsTransitionLine line slots fields → list_all stands_in_one line.1 ≡ true
line-stands line slots fields t =
    let all : list_all is_field (fields_of line) ≡ true = ap (list_all is_field) t.fields_are ∙ t.are_fields in
    elim (cases_Bool (list_any (λ b. b == 44) line.1)) [
      | inl c ↦ parts-stand line.1 (fields-stand (comma_parts line.1) (ap (λ v. list_all is_field (if v then fields_between line.1 else map (λ b. b ∷ []) line.1)) (sym c) ∙ all))
      | inr c ↦ bytes-stand line.1 (ap (λ v. list_all is_field (if v then fields_between line.1 else map (λ b. b ∷ []) line.1)) (sym c) ∙ all)
    ]

-- ---- what begins a section is no statement

at-sign : (bytes : List ℕ) → list_all stands_in_one bytes ≡ true → begins_with (λ b. b == 64) bytes ≡ false
at-sign [] all = refl
at-sign (b ∷ bs) all = elim (cases_Bool (b == 64)) [
  | inl t ↦
      let same : b ≡ 64 = grind (arith, nat_tests) in
      let none : stands_in_one b ≡ false = ap stands_in_one same in
      absurd (true≢false (sym (and_parts (stands_in_one b) (list_all stands_in_one bs) all).0 ∙ none))
  | inr t ↦ t
]

pub transition-no-section : (line : NumberedLine) (slots : ℕ) (fields : List (List ℕ)) → IsTransitionLine line slots fields → begins_section line ≡ false
transition-no-section line slots fields t = at-sign line.1 (line-stands line slots fields t)

pub variable-no-section : (line : NumberedLine) (name : List ℕ) (fields : List (List ℕ)) → IsVariableLine line name fields → begins_section line ≡ false
variable-no-section line name fields v = ap (begins_with (λ b. b == 64)) v.spelled

-- ---- nor is a setting

pub variable-no-setting : (line : NumberedLine) (name : List ℕ) (fields : List (List ℕ)) → IsVariableLine line name fields → is_setting line ≡ false
variable-no-setting line name fields v = ap (λ l. is_setting (line.0, l)) v.spelled

is-some : {A : Type 0} (o : Option A) → is_some o ≡ true → (x : A) × (o ≡ Some x)
is-some None e = absurd (false≢true e)
is-some (Some x) e = (x, refl)

-- a colon is in the line of a setting
colon-stands : (word : List ℕ) (line : NumberedLine) → is_some (setting word line) ≡ true → list_all stands_in_one line.1 ≡ true → ⊥
colon-stands word line some all =
    let value = is-some (setting word line) some in
    let m = map-some (rest is_blank) (option_and_then (λ bytes. tail_after (codes ":") (rest is_blank bytes)) (tail_after word line.1)) value.0 value.1 in
    let t = then-some (λ bytes. tail_after (codes ":") (rest is_blank bytes)) (tail_after word line.1) m.0 m.1 in
    let later = every_right stands_in_one word t.0 (ap (list_all stands_in_one) (sym (tail_after-whole word line.1 t.0 t.1)) ∙ all) in
    let colon : t.0 ≡ front is_blank t.0 ++ (codes ":" ++ m.0) = sym (front_then_rest is_blank t.0) ∙ ap (λ l. front is_blank t.0 ++ l) (tail_after-whole (codes ":") (rest is_blank t.0) m.0 t.2) in
    let last = every_right stands_in_one (front is_blank t.0) (codes ":" ++ m.0) (ap (list_all stands_in_one) (sym colon) ∙ later) in
    false≢true last

any-word : (words : List (List ℕ)) (line : NumberedLine) → list_all stands_in_one line.1 ≡ true → list_any (λ word. is_some (setting word line)) words ≡ false
any-word [] line all = refl
any-word (w ∷ ws) line all = elim (cases_Bool (is_some (setting w line))) [
  | inl t ↦ absurd (colon-stands w line t all)
  | inr t ↦ or_from (is_some (setting w line)) (list_any (λ word. is_some (setting word line)) ws) t (any-word ws line all)
]

pub transition-no-setting : (line : NumberedLine) (slots : ℕ) (fields : List (List ℕ)) → IsTransitionLine line slots fields → is_setting line ≡ false
transition-no-setting line slots fields t = any-word setting_words line (line-stands line slots fields t)

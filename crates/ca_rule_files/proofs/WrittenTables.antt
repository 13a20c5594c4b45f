-- The text of a written table is that of the table.
use Rattle.std.proofs.Common.{◌≡◌, ℕ, ◌+◌, ◌<◌, ◌≤◌, List, [], ◌∷◌, ◌++◌, length, map, filter, Bool, true, false, not, ◌==◌, ◌&&◌, nat_le, None, option_map, unwrap_or, codes, decimal, refl, sym, ap, subst, ◌∙◌, inr, append_assoc, arith, if◌then◌else◌}
use Rattle.std.specs.List.{list_all, list_any, flat_map, enumerate_from, AllByRecursion, AllZip}
use Rattle.std.proofs.Math.Bool.{or-true}
use Rattle.std.proofs.lemmas.Bool.{and_parts, and_from, or_left, not-true, false≢true}
use Rattle.std.proofs.lemmas.Bool.Decides.{nat_tests}
use Rattle.std.proofs.lemmas.List.Folds.{list_all-append, list_any-append}
use Rattle.std.proofs.lemmas.List.{append-nil, length-map, length-append}
use Rattle.ca_plane.specs.Prelude.{is_blank, is_digit, is_line_end, is_end_or, AreDigits, Every, front, rest, with_front, without_last_blanks, trimmed, lines_of, text_of, words_of, IsWord, is_word_byte}
use Rattle.ca_plane.proofs.Decimals.{decimal_writes}
use Rattle.ca_plane.proofs.Fronts.{every_append, every_wider, every_digit, front_append, rest_append}
use Rattle.ca_plane.proofs.Lines.{lines_ahead, words_ahead}
use Rattle.ca_rule.specs.declared.table.neighbourhood.Neighbourhood.TheVariants.{Moore}
use Rattle.ca_rule.specs.declared.table.neighbourhood.Symmetry.TheVariants.{Identity}
use Rattle.ca_rule.specs.declared.table.slot.Slot.{Slot}
use Rattle.ca_rule.specs.declared.table.slot.Slot.TheVariants.{Number, Variable}
use Rattle.ca_rule.specs.Prelude.{are_digits, state_count, States, Transition, content_of, says_something, lines_said, rule_named, begins_with, tail_after, begins_variable, comma_parts, fields_between, is_field, is_name}
use Rattle.ca_rule.specs.Prelude.{IsTransitionLine, Settings, SaidStatements, StandsFor, SaysTransition, LinesSay, IsTable, table_from}
use Rattle.ca_rule.proofs.GenerationsPrinted.{are_digits-of, state_count-of}
use Rattle.ca_rule_files.specs.Prelude.{IsTableName}
use Rattle.ca_rule_files.specs.WrittenTables.{head_lines}
use Rattle.ca_rule_files.proofs.PutTexts.{all-append}

-- ---- the lines of a text

-- a byte that is no blank, ends no line and begins no comment
abbrev pub is_plain : ℕ → Bool
is_plain b = not (is_blank b) && (not (is_line_end b) && not (b == 35))

-- a line that a text of lines says as it stands
pub record IsSaid (line : List ℕ) : Type 0 where
  pub one_line : Every (λ b. not (is_line_end b)) line
  pub content : content_of line ≡ line
  pub something : nat_le 1 (length line) ≡ true

lines-back : (lines : List (List ℕ)) → AllByRecursion IsSaid lines → lines_of (text_of lines) ≡ lines
lines-back [] all = refl
lines-back (l ∷ ls) all = ap lines_of (append_assoc l (10 ∷ []) (text_of ls)) ∙ lines_ahead l (text_of ls) all.0.one_line ∙ ap (λ more. l ∷ more) (lines-back ls all.1)

contents-back : (lines : List (List ℕ)) → AllByRecursion IsSaid lines → map content_of lines ≡ lines
contents-back [] all = refl
contents-back (l ∷ ls) all = ap (λ c. c ∷ map content_of ls) all.0.content ∙ ap (λ more. l ∷ more) (contents-back ls all.1)

all-say : (n : ℕ) (lines : List (List ℕ)) → AllByRecursion IsSaid lines → filter says_something (enumerate_from n lines) ≡ enumerate_from n lines
all-say n [] all = refl
all-say n (l ∷ ls) all =
    ap (λ b. if b then (n, l) ∷ filter says_something (enumerate_from (n + 1) ls) else filter says_something (enumerate_from (n + 1) ls)) all.0.something
    ∙ ap (λ more. (n, l) ∷ more) (all-say (n + 1) ls all.1)

pub lines-said : (lines : List (List ℕ)) → AllByRecursion IsSaid lines → lines_said (text_of lines) ≡ enumerate_from 1 lines
lines-said lines all = ap (λ ls. filter says_something (enumerate_from 1 (map content_of ls))) (lines-back lines all) ∙ ap (λ ls. filter says_something (enumerate_from 1 ls)) (contents-back lines all) ∙ all-say 1 lines all

-- ---- plain bytes at the end of a line

pub no-comment : (bytes : List ℕ) → Every is_plain bytes → Every (λ b. not (b == 35)) bytes
no-comment bytes all = every_wider is_plain (λ b. not (b == 35)) (λ b h. (and_parts (not (is_line_end b)) _ (and_parts (not (is_blank b)) _ h).1).1) bytes all

pub one-line : (bytes : List ℕ) → Every is_plain bytes → Every (λ b. not (is_line_end b)) bytes
one-line bytes all = every_wider is_plain (λ b. not (is_line_end b)) (λ b h. (and_parts (not (is_line_end b)) _ (and_parts (not (is_blank b)) _ h).1).0) bytes all

pub no-blanks : (bytes : List ℕ) → Every is_plain bytes → Every (λ b. not (is_blank b)) bytes
no-blanks bytes all = every_wider is_plain (λ b. not (is_blank b)) (λ b h. (and_parts (not (is_blank b)) _ h).0) bytes all

and-false : (b : Bool) → (b && false) ≡ false
and-false true = refl
and-false false = refl

pub front-all : (test : ℕ → Bool) (bytes : List ℕ) → Every test bytes → front test bytes ≡ bytes
front-all test bytes all = ap (front test) (sym (append-nil bytes)) ∙ front_append test bytes [] all refl

pub keeps-last : (bytes : List ℕ) → Every (λ b. not (is_blank b)) bytes → without_last_blanks bytes ≡ bytes
keeps-last [] all = refl
keeps-last (b ∷ bs) all =
    let parts = and_parts (not (is_blank b)) (list_all (λ b. not (is_blank b)) bs) all in
    ap (λ v. if v && list_all is_blank bs then [] else b ∷ without_last_blanks bs) (not-true (is_blank b) parts.0)
    ∙ ap (λ l. b ∷ l) (keeps-last bs parts.1)

pub keeps-end : (before : List ℕ) (b : ℕ) (bs : List ℕ) → Every (λ b. not (is_blank b)) (b ∷ bs) → without_last_blanks (before ++ b ∷ bs) ≡ before ++ b ∷ bs
keeps-end [] b bs all = keeps-last (b ∷ bs) all
keeps-end (x ∷ xs) b bs all =
    let parts = and_parts (not (is_blank b)) (list_all (λ b. not (is_blank b)) bs) all in
    let ends : list_all is_blank ((x ∷ xs) ++ b ∷ bs) ≡ false =
    list_all-append is_blank (x ∷ xs) (b ∷ bs) ∙ ap (λ v. list_all is_blank (x ∷ xs) && (v && list_all is_blank bs)) (not-true (is_blank b) parts.0) ∙ and-false (list_all is_blank (x ∷ xs)) in
    ap (λ v. if v then [] else x ∷ without_last_blanks (xs ++ b ∷ bs)) ends ∙ ap (λ l. x ∷ l) (keeps-end xs b bs all)

pub something-said : (b : ℕ) (bs : List ℕ) → nat_le 1 (length (b ∷ bs)) ≡ true
something-said b bs = grind (arith, nat_tests)

trimmed-plain : (bytes : List ℕ) → Every is_plain bytes → trimmed bytes ≡ bytes
trimmed-plain [] all = refl
trimmed-plain (b ∷ bs) all =
    let parts = and_parts (not (is_blank b)) (list_all (λ b. not (is_blank b)) bs) (no-blanks (b ∷ bs) all) in
    ap (λ v. without_last_blanks (if v then rest is_blank bs else b ∷ bs)) (not-true (is_blank b) parts.0) ∙ keeps-last (b ∷ bs) (no-blanks (b ∷ bs) all)

pub plain-said : (b : ℕ) (bs : List ℕ) → Every is_plain (b ∷ bs) → IsSaid (b ∷ bs)
plain-said b bs all = record {
  one_line = one-line (b ∷ bs) all;
  content = ap trimmed (front-all (λ b. not (b == 35)) (b ∷ bs) (no-comment (b ∷ bs) all)) ∙ trimmed-plain (b ∷ bs) all;
  something = something-said b bs;
}

plain-name : (name : List ℕ) → Every is_word_byte name → Every (λ b. not (b == 35)) name → Every is_plain name
plain-name [] word all = refl
plain-name (b ∷ bs) word all =
    let w = and_parts (is_word_byte b) (list_all is_word_byte bs) word in
    let n = and_parts (not (b == 35)) (list_all (λ b. not (b == 35)) bs) all in
    let v = and_parts (not (is_blank b)) (not (is_line_end b)) w.0 in
    and_from (is_plain b) (list_all is_plain bs) (and_from (not (is_blank b)) _ v.0 (and_from (not (is_line_end b)) _ v.1 n.0)) (plain-name bs w.1 n.1)

pub rule-line-said : (name : List ℕ) → IsWord name → Every (λ b. not (b == 35)) name → IsSaid (codes "@RULE " ++ name)
rule-line-said [] word all = absurd (false≢true word)
rule-line-said (b ∷ bs) word all =
    let plain = plain-name (b ∷ bs) word all in
    let none = every_append (λ b. not (b == 35)) (codes "@RULE ") (b ∷ bs) refl all in
    record {
      one_line = every_append (λ b. not (is_line_end b)) (codes "@RULE ") (b ∷ bs) refl (one-line (b ∷ bs) plain);
      content = ap trimmed (front-all (λ b. not (b == 35)) (codes "@RULE " ++ b ∷ bs) none) ∙ keeps-end (codes "@RULE ") b bs (no-blanks (b ∷ bs) plain);
      something = something-said 64 (codes "RULE " ++ b ∷ bs);
    }

pub name-said : (name : List ℕ) → IsWord name → words_of (codes "@RULE " ++ name) ≡ codes "@RULE" ∷ name ∷ []
name-said name word = ap (λ ws. codes "@RULE" ∷ ws) (ap words_of (sym (append-nil name)) ∙ words_ahead name [] word refl)

-- ---- fields between commas

-- a byte of a field: a plain one, and no comma
abbrev pub is_field_byte : ℕ → Bool
is_field_byte b = is_plain b && not (b == 44)

-- a field as it is written
pub record IsFieldText (field : List ℕ) : Type 0 where
  pub bytes : Every is_field_byte field
  pub is : is_field field ≡ true

-- fields, each with a comma behind it, and a last one
abbrev pub joined : List (List ℕ) → List ℕ → List ℕ
joined fields last = flat_map (λ field. field ++ 44 ∷ []) fields ++ last

pub joined-more : (f : List ℕ) (fs : List (List ℕ)) (last : List ℕ) → joined (f ∷ fs) last ≡ f ++ 44 ∷ joined fs last
joined-more f fs last = append_assoc (f ++ 44 ∷ []) (flat_map (λ field. field ++ 44 ∷ []) fs) last ∙ append_assoc f (44 ∷ []) (joined fs last)

pub plain-field : (field : List ℕ) → Every is_field_byte field → Every is_plain field
plain-field field all = every_wider is_field_byte is_plain (λ b h. (and_parts (is_plain b) (not (b == 44)) h).0) field all

comma-part : (field more : List ℕ) → Every is_field_byte field → comma_parts (field ++ 44 ∷ more) ≡ field ∷ comma_parts more
comma-part [] more all = refl
comma-part (b ∷ bs) more all =
    let parts = and_parts (is_field_byte b) (list_all is_field_byte bs) all in
    let no = not-true (b == 44) (and_parts (is_plain b) (not (b == 44)) parts.0).1 in
    ap (λ v. if v then [] ∷ comma_parts (bs ++ 44 ∷ more) else with_front b (comma_parts (bs ++ 44 ∷ more))) no
    ∙ ap (with_front b) (comma-part bs more parts.1)

last-part : (field : List ℕ) → Every is_field_byte field → comma_parts field ≡ field ∷ []
last-part [] all = refl
last-part (b ∷ bs) all =
    let parts = and_parts (is_field_byte b) (list_all is_field_byte bs) all in
    let no = not-true (b == 44) (and_parts (is_plain b) (not (b == 44)) parts.0).1 in
    ap (λ v. if v then [] ∷ comma_parts bs else with_front b (comma_parts bs)) no
    ∙ ap (with_front b) (last-part bs parts.1)

pub fields-back : (fields : List (List ℕ)) (last : List ℕ) → AllByRecursion IsFieldText fields → IsFieldText last → fields_between (joined fields last) ≡ fields ++ last ∷ []
fields-back [] last all ends = ap (map trimmed) (last-part last ends.bytes) ∙ ap (λ f. f ∷ []) (trimmed-plain last (plain-field last ends.bytes))
fields-back (f ∷ fs) last all ends =
    ap fields_between (joined-more f fs last)
    ∙ ap (map trimmed) (comma-part f (joined fs last) all.0.bytes)
    ∙ ap (λ t. t ∷ fields_between (joined fs last)) (trimmed-plain f (plain-field f all.0.bytes))
    ∙ ap (λ l. f ∷ l) (fields-back fs last all.1 ends)

pub joined-plain : (fields : List (List ℕ)) (last : List ℕ) → AllByRecursion IsFieldText fields → IsFieldText last → Every is_plain (joined fields last)
joined-plain [] last all ends = plain-field last ends.bytes
joined-plain (f ∷ fs) last all ends = ap (list_all is_plain) (joined-more f fs last) ∙ every_append is_plain f (44 ∷ joined fs last) (plain-field f all.0.bytes) (joined-plain fs last all.1 ends)

pub are-fields : (fields : List (List ℕ)) (last : List ℕ) → AllByRecursion IsFieldText fields → IsFieldText last → list_all is_field (fields ++ last ∷ []) ≡ true
are-fields [] last all ends = and_from (is_field last) true ends.is refl
are-fields (f ∷ fs) last all ends = and_from (is_field f) (list_all is_field (fs ++ last ∷ [])) all.0.is (are-fields fs last all.1 ends)

has-comma : (f : List ℕ) (fs : List (List ℕ)) (last : List ℕ) → list_any (λ b. b == 44) (joined (f ∷ fs) last) ≡ true
has-comma f fs last = ap (list_any (λ b. b == 44)) (joined-more f fs last) ∙ list_any-append (λ b. b == 44) f (44 ∷ joined fs last) ∙ or-true (list_any (λ b. b == 44) f)

-- ---- slots and how they are written

-- a slot's field: a number's digits, or a variable's letter
abbrev pub slot_text : Slot → List ℕ
slot_text (Number state) = decimal state
slot_text (Variable v) = (97 + v) ∷ []

digits-of : (n : ℕ) → n < 256 + 1 → AreDigits (decimal n)
digits-of n low = (decimal_writes n (omega arith)).0

pub number-text : (n : ℕ) → n < 256 + 1 → IsFieldText (decimal n)
number-text n low = record {
  bytes = every_wider is_digit is_field_byte (λ b t. grind (arith, nat_tests)) (decimal n) (every_digit (decimal n) (digits-of n low));
  is = or_left (are_digits (decimal n)) (is_name (decimal n)) (are_digits-of (decimal n) (digits-of n low));
}

-- a transition of a centre, the slots round it, and a result
abbrev pub transition_to : ℕ → List Slot → ℕ → Transition
transition_to centre ring result = record { inputs = Number centre ∷ ring; result = Number result }

-- its line
abbrev pub line_to : ℕ → List Slot → ℕ → List ℕ
line_to centre ring result = joined (map slot_text (Number centre ∷ ring)) (decimal result)

-- a transition that is written, by its parts
pub record Written : Type 0 where
  pub centre : ℕ
  pub ring : List Slot
  pub result : ℕ

abbrev pub written_line : Written → List ℕ
written_line w = line_to w.centre w.ring w.result

abbrev pub written_transition : Written → Transition
written_transition w = transition_to w.centre w.ring w.result

-- cells of two states
abbrev pub AreBits : List ℕ → Type 0
AreBits cells = AllByRecursion (λ c. c < 2) cells

-- ---- a table of `states` states, with these variables

abbrev pub settings_of : ℕ → Settings
settings_of states = record { states = states; neighbourhood = Moore; symmetry = Identity }

-- what was said, after these variables and transitions
abbrev pub said_of : List (List ℕ × States) → List Transition → SaidStatements
said_of variables transitions = record { variables = variables; transitions = transitions }

-- a number stands for its state
pub number-stands : (states : ℕ) → states ≤ 256 → (said : SaidStatements) (state : ℕ) → state < states → StandsFor (settings_of states) said (decimal state) (Number state)
number-stands states high said state h = (are_digits-of (decimal state) (digits-of state (omega arith)), (decimal_writes state (omega arith)).1, h)

module _ (states : ℕ) (low : 2 ≤ states) (high : states ≤ 256) (variables : List (List ℕ × States)) where
  -- a slot that is written in the table: a state, or a variable that its letter stands for
  abbrev pub IsWritable : Slot → Type 0
  IsWritable (Number state) = state < states
  IsWritable (Variable v) = IsFieldText ((97 + v) ∷ []) × StandsFor (settings_of states) (said_of variables []) ((97 + v) ∷ []) (Variable v)

  slot-field : (slot : Slot) → IsWritable slot → IsFieldText (slot_text slot)
  slot-field (Number state) h = number-text state (omega arith)
  slot-field (Variable v) h = h.0

  slot-fields : (slots : List Slot) → AllByRecursion IsWritable slots → AllByRecursion IsFieldText (map slot_text slots)
  slot-fields [] all = tt
  slot-fields (s ∷ ss) all = (slot-field s all.0, slot-fields ss all.1)

  slot-stands : (ts : List Transition) (slot : Slot) → IsWritable slot → StandsFor (settings_of states) (said_of variables ts) (slot_text slot) slot
  slot-stands ts (Number state) h = number-stands states high (said_of variables ts) state h
  slot-stands ts (Variable v) h = h.1

  -- ---- a transition's line

  -- it can be written
  pub record CanWrite (centre : ℕ) (ring : List Slot) (result : ℕ) : Type 0 where
    pub centre_low : centre < states
    pub slots : AllByRecursion IsWritable ring
    pub eight : length ring ≡ 8
    pub result_low : result < states

  digit-begins : (n b : ℕ) (bs : List ℕ) → is_digit b ≡ true → begins_variable (n, b ∷ bs) ≡ false
  digit-begins n b bs h =
      let e : (118 == b) ≡ false = grind (arith, nat_tests) in
      ap (λ v. unwrap_or (option_map (begins_with is_blank) (if v then tail_after (codes "ar") bs else None)) false) e

  digits-begin : (n : ℕ) (ds more : List ℕ) → AreDigits ds → begins_variable (n, ds ++ more) ≡ false
  digits-begin n [] more h = absurd (false≢true h)
  digits-begin n (d ∷ ds) more h = digit-begins n d (ds ++ more) (and_parts (is_digit d) (list_all is_digit ds) h).0

  all-stand : (ts : List Transition) (slots : List Slot) (result : ℕ) → AllByRecursion IsWritable slots → result < states
      → AllZip (StandsFor (settings_of states) (said_of variables ts)) (map slot_text slots ++ decimal result ∷ []) (slots ++ Number result ∷ [])
  all-stand ts [] result all h = (number-stands states high (said_of variables ts) result h, tt)
  all-stand ts (s ∷ ss) result all h = (slot-stands ts s all.0, all-stand ts ss result all.1 h)

  is-transition : (n centre : ℕ) (ring : List Slot) (result : ℕ) → CanWrite centre ring result
      → IsTransitionLine (n, line_to centre ring result) 10 (map slot_text (Number centre ∷ ring) ++ decimal result ∷ [])
  is-transition n centre ring result can =
      let fields = map slot_text (Number centre ∷ ring) in
      let all = slot-fields (Number centre ∷ ring) (can.centre_low, can.slots) in
      let last = number-text result (omega (arith, can.result_low)) in
      let nine : length (Number centre ∷ ring) ≡ 9 = omega (arith, can.eight) in
      record {
        no_variable = ap (λ l. begins_variable (n, l)) (joined-more (decimal centre) (map slot_text ring) (decimal result))
            ∙ digits-begin n (decimal centre) (44 ∷ joined (map slot_text ring) (decimal result)) (digits-of centre (omega (arith, can.centre_low)));
        fields_are = ap (λ v. if v then fields_between (joined fields (decimal result)) else map (λ b. b ∷ []) (joined fields (decimal result))) (has-comma (decimal centre) (map slot_text ring) (decimal result))
            ∙ fields-back fields (decimal result) all last;
        are_fields = are-fields fields (decimal result) all last;
        count = length-append fields (decimal result ∷ []) ∙ ap (λ k. k + 1) (length-map (Number centre ∷ ring) slot_text ∙ nine);
      }

  says-one : (ts : List Transition) (n centre : ℕ) (ring : List Slot) (result : ℕ) → CanWrite centre ring result
      → SaysTransition (settings_of states) (said_of variables ts) (n, line_to centre ring result) (said_of variables (ts ++ transition_to centre ring result ∷ []))
  says-one ts n centre ring result can = record {
    fields = map slot_text (Number centre ∷ ring) ++ decimal result ∷ [];
    inputs = Number centre ∷ ring;
    result = Number result;
    spelled = is-transition n centre ring result can;
    stand = all-stand ts (Number centre ∷ ring) result (can.centre_low, can.slots) can.result_low;
    holds = (refl, refl);
  }

  plain-line : (bytes : List ℕ) → nat_le 1 (length bytes) ≡ true → Every is_plain bytes → IsSaid bytes
  plain-line [] some all = absurd (false≢true some)
  plain-line (b ∷ bs) some all = plain-said b bs all

  some-after : (f more : List ℕ) → nat_le 1 (length (f ++ 44 ∷ more)) ≡ true
  some-after [] more = something-said 44 more
  some-after (b ∷ bs) more = something-said b (bs ++ 44 ∷ more)

  one-said : (centre : ℕ) (ring : List Slot) (result : ℕ) → CanWrite centre ring result → IsSaid (line_to centre ring result)
  one-said centre ring result can =
      plain-line (line_to centre ring result)
      (ap (λ l. nat_le 1 (length l)) (joined-more (decimal centre) (map slot_text ring) (decimal result)) ∙ some-after (decimal centre) (joined (map slot_text ring) (decimal result)))
      (joined-plain (map slot_text (Number centre ∷ ring)) (decimal result) (slot-fields (Number centre ∷ ring) (can.centre_low, can.slots)) (number-text result (omega (arith, can.result_low))))

  -- ---- the table

  abbrev pub IsGood : Written → Type 0
  IsGood w = CanWrite w.centre w.ring w.result

  says-transitions : (ws : List Written) (ts : List Transition) (n : ℕ) → AllByRecursion IsGood ws
      → LinesSay (settings_of states) (said_of variables ts) (enumerate_from n (map written_line ws)) (said_of variables (ts ++ map written_transition ws))
  says-transitions [] ts n all = ap (said_of variables) (sym (append-nil ts))
  says-transitions (w ∷ ws) ts n all = (
    said_of variables (ts ++ written_transition w ∷ []),
    inr (says-one ts n w.centre w.ring w.result all.0),
    subst (λ l. LinesSay (settings_of states) (said_of variables (ts ++ written_transition w ∷ [])) (enumerate_from (n + 1) (map written_line ws)) (said_of variables l))
        (append_assoc ts (written_transition w ∷ []) (map written_transition ws))
        (says-transitions ws (ts ++ written_transition w ∷ []) (n + 1) all.1),
  )

  transitions-said-lines : (ws : List Written) → AllByRecursion IsGood ws → AllByRecursion IsSaid (map written_line ws)
  transitions-said-lines [] all = tt
  transitions-said-lines (w ∷ ws) all = (one-said w.centre w.ring w.result all.0, transitions-said-lines ws all.1)

  starts-plain : (ds : List ℕ) → Every is_plain ds → is_end_or (λ b. not (is_blank b)) ds ≡ true
  starts-plain [] h = refl
  starts-plain (d ∷ ds) h = (and_parts (not (is_blank d)) (list_all (λ b. not (is_blank b)) ds) (no-blanks (d ∷ ds) h)).0

  -- the head, lines that say the variables, and those of the transitions are the text of the table
  pub is-table : (name : List ℕ) (before : List (List ℕ)) (ws : List Written) → IsTableName name → AllByRecursion IsSaid before
      → ((lines : List (List ℕ)) (after : SaidStatements) → ((m : ℕ) → LinesSay (settings_of states) (said_of variables []) (enumerate_from m lines) after) → LinesSay (settings_of states) (said_of [] []) (enumerate_from 6 (before ++ lines)) after)
      → AllByRecursion IsGood ws → IsTable (text_of (head_lines name states ++ (before ++ map written_line ws))) (table_from name (settings_of states) (said_of variables (map written_transition ws)))
  is-table name before ws is said_before say_before all =
      let lines = before ++ map written_line ws in
      let number = plain-field (decimal states) (number-text states (omega arith)).bytes in
      let said : AllByRecursion IsSaid (head_lines name states ++ lines) = (
        rule-line-said name is.word is.no_comment,
        (
          plain-said 64 (codes "TABLE") refl,
          (
            plain-said 110 (codes "_states:" ++ decimal states) number,
            (
              plain-said 110 (codes "eighborhood:Moore") refl,
              (plain-said 115 (codes "ymmetries:none") refl, all-append IsSaid before (map written_line ws) said_before (transitions-said-lines ws all)),
            ),
          ),
        ),
      ) in
      record {
        name = name;
        setting_lines = (3, codes "n_states:" ++ decimal states) ∷ (4, codes "neighborhood:Moore") ∷ (5, codes "symmetries:none") ∷ [];
        statements = enumerate_from 6 lines;
        later = [];
        settings = settings_of states;
        said = said_of variables (map written_transition ws);
        has_table = record {
          rule_line = (1, codes "@RULE " ++ name);
          skipped = [];
          table_line = (2, codes "@TABLE");
          named = ap rule_named (name-said name is.word);
          no_table = refl;
          begins = refl;
          whole = lines-said (head_lines name states ++ lines) said
              ∙ ap (λ l. (1, codes "@RULE " ++ name) ∷ (2, codes "@TABLE") ∷ (3, codes "n_states:" ++ decimal states) ∷ (4, codes "neighborhood:Moore") ∷ (5, codes "symmetries:none") ∷ l) (sym (append-nil (enumerate_from 6 lines)));
        };
        mean = record {
          once = refl;
          states_are = ap state_count (rest_append is_blank [] (decimal states) refl (starts-plain (decimal states) number))
              ∙ state_count-of states (decimal states) (digits-of states (omega arith)) (decimal_writes states (omega arith)).1 low high;
          neighbourhood_is = refl;
          symmetry_is = refl;
        };
        say = say_before (map written_line ws) (said_of variables (map written_transition ws)) (λ m. says-transitions ws [] m all);
        ends = refl;
        table_is = refl;
      }

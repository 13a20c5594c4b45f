-- A line that follows earlier nodes says one thing at most, or has one fault at most: what it is, decided word by word.
use Rattle.std.proofs.Common.{◌≡◌, ◌≢◌, ℕ, zero, suc, ◌-◌, ◌<◌, ◌≤◌, ◌⊎◌, inl, inr, Bool, true, false, not, ◌&&◌, ◌||◌, ◌==◌, nat_lt, nat_le, nat_eq, List, [], ◌∷◌, ◌++◌, length, Option, Some, None, Result, Ok, Err, refl, sym, ap, ◌∙◌, arith, codes, if◌then◌else◌, option_map}
use Rattle.std.specs.Prelude.{slice_get}
use Rattle.std.specs.List.{AllByRecursion, list_all, starts_with}
use Rattle.std.specs.Str.{bytes_eq}
use Rattle.std.proofs.lemmas.Bool.{cases_Bool, and_parts, and_from, true≢false}
use Rattle.std.proofs.lemmas.Bool.Decides.{nat_tests}
use Rattle.ca_plane.specs.Prelude.{letter, is_digit, is_end_or, AreDigits, value, generation_limit}
use Rattle.ca_macro.specs.declared.fault.MacroFault.{MacroFault}
use Rattle.ca_macro.specs.declared.fault.MacroFault.TheVariants.{NotMacro, Timeline, Syntax, Forward, Level, LeafSize, Range, GenTooLarge, Memory}
use Rattle.ca_macro.specs.Prelude.{Node, Leaf, Cells, Parts, IsLeaf, node_level, NamesPart, IsLevel, MacrocellLine, Nothing, Rule, Generation, Adds, is_comment, AreNumbers, MacrocellWordsSay}
use Rattle.ca_macro.specs.Prelude.{IsAllowedNode, is_leaf_byte, HasBadByte, HavePart, LackNumbers, AreFaulty}
use Rattle.ca_macro.specs.inner.Leaves.{leaf_fault, leaf_cells}
use Rattle.ca_macro.proofs.Leaves.{one_leaf}
use Rattle.ca_macro.proofs.LeafLines.{byte_fault, leaf_none, bad_fault, leaf_begins}

-- ---- the verdict

abbrev pub Verdict : Type 0
Verdict = Result MacrocellLine MacroFault

abbrev pub are_digits : List ℕ → Bool
are_digits [] = false
are_digits (d ∷ ds) = list_all is_digit (d ∷ ds)

abbrev rule_verdict : List (List ℕ) → Verdict
rule_verdict [] = Ok Nothing
rule_verdict (t ∷ ws) = Ok (Rule t)

abbrev generation_verdict : List (List ℕ) → Verdict
generation_verdict [] = Ok Nothing
generation_verdict (d ∷ []) =
    if are_digits d then (if nat_lt (value d) generation_limit then Ok (Generation (value d)) else Err GenTooLarge) else Err Syntax
generation_verdict (d ∷ e ∷ ws) = Err Syntax

abbrev hash_verdict : List ℕ → List (List ℕ) → Verdict
hash_verdict w ws =
    if starts_with nat_eq w (codes "#FRAME") then Err Timeline
    else (if bytes_eq w (codes "#R") then rule_verdict ws else (if bytes_eq w (codes "#G") then generation_verdict ws else Ok Nothing))

abbrev leaf_verdict : List ℕ → List (List ℕ) → Option MacroFault → Verdict
leaf_verdict w ws (Some f) = Err f
leaf_verdict w [] None = Ok (Adds (Leaf (leaf_cells w)))
leaf_verdict w (v ∷ ws) None = Err Syntax

-- a number names a part of this level
abbrev pub has_level : ℕ → Option ℕ → Bool
has_level level None = false
has_level level (Some l) = l == level

abbrev pub names : List Node → ℕ → ℕ → Bool
names earlier level zero = true
names earlier level (suc i) = has_level level (option_map node_level (slice_get earlier i))

abbrev first_bad : List Node → ℕ → List ℕ → Option MacroFault
first_bad earlier level [] = None
first_bad earlier level (n ∷ ns) =
    if nat_lt (length earlier) n then Some Forward else (if names earlier level n then first_bad earlier level ns else Some Level)

abbrev parts_verdict : (level nw ne sw se : ℕ) → Option MacroFault → Verdict
parts_verdict level nw ne sw se None = Ok (Adds (Parts level nw ne sw se))
parts_verdict level nw ne sw se (Some f) = Err f

abbrev node_verdict : List Node → (level nw ne sw se : ℕ) → Verdict
node_verdict earlier level nw ne sw se =
    if (level == 0) || nat_lt 120 level then Err Level
    else (if level == 1 then (if list_all (λ s. nat_le s 255) (nw ∷ ne ∷ sw ∷ se ∷ []) then Ok (Adds (Cells nw ne sw se)) else Err Syntax)
    else parts_verdict level nw ne sw se (first_bad earlier (level - 1) (nw ∷ ne ∷ sw ∷ se ∷ [])))

abbrev number_verdict : List Node → List (List ℕ) → Verdict
number_verdict earlier (a ∷ b ∷ c ∷ d ∷ e ∷ []) =
    if are_digits a && (are_digits b && (are_digits c && (are_digits d && are_digits e))) then node_verdict earlier (value a) (value b) (value c) (value d) (value e) else Err Syntax
number_verdict earlier _ = Err Syntax

abbrev pub verdict : List Node → List (List ℕ) → Verdict
verdict earlier [] = Ok Nothing
verdict earlier (w ∷ ws) =
    if starts_with nat_eq w (codes "#") then hash_verdict w ws
    else (if is_end_or is_leaf_byte w then leaf_verdict w ws (leaf_fault 8 8 w) else number_verdict earlier (w ∷ ws))

-- ---- tests

hash_first : (b : ℕ) (bs : List ℕ) → (b == 35) ≡ false → starts_with nat_eq (b ∷ bs) (codes "#") ≡ false
hash_first b bs e = let f : (35 == b) ≡ false = grind (arith, nat_tests) in rw f refl

leaf_is_no_hash : (w : List ℕ) → is_end_or is_leaf_byte w ≡ true → starts_with nat_eq w (codes "#") ≡ false
leaf_is_no_hash [] h = refl
leaf_is_no_hash (b ∷ bs) h = hash_first b bs (grind (arith, nat_tests))

pub digits_test : (w : List ℕ) → AreDigits w → are_digits w ≡ true
digits_test [] h = h
digits_test (d ∷ ds) h = h

pub digits_from_test : (w : List ℕ) → are_digits w ≡ true → AreDigits w
digits_from_test [] h = h
digits_from_test (d ∷ ds) h = h

digit_is_other : (d : ℕ) → is_digit d ≡ true → ((d == 35) ≡ false) × (is_leaf_byte d ≡ false)
digit_is_other d h = (grind (arith, nat_tests), grind (arith, nat_tests))

digits_no_hash : (w : List ℕ) → are_digits w ≡ true → starts_with nat_eq w (codes "#") ≡ false
digits_no_hash [] h = refl
digits_no_hash (d ∷ ds) h = hash_first d ds (digit_is_other d (and_parts (is_digit d) (list_all is_digit ds) h).0).0

digits_no_leaf : (w : List ℕ) → are_digits w ≡ true → is_end_or is_leaf_byte w ≡ false
digits_no_leaf [] h = absurd (true≢false (sym h))
digits_no_leaf (d ∷ ds) h = (digit_is_other d (and_parts (is_digit d) (list_all is_digit ds) h).0).1

not_true : (b : Bool) → not b ≡ true → b ≡ false
not_true true h = absurd (true≢false (sym h))
not_true false h = refl

neither : (a b : Bool) → not (a || b) ≡ true → (a ≡ false) × (b ≡ false)
neither true b h = absurd (true≢false (sym h))
neither false b h = (refl, not_true b h)

-- ---- what is said is the verdict

nothing_alone : (w : List ℕ) → starts_with nat_eq w (codes "#FRAME") ≡ false → hash_verdict w [] ≡ Ok Nothing
nothing_alone w f =
    elim (cases_Bool (bytes_eq w (codes "#R"))) [
      | inl r ↦ rw (f, r) refl
      | inr r ↦ elim (cases_Bool (bytes_eq w (codes "#G"))) [ inl g ↦ rw (f, r, g) refl | inr g ↦ rw (f, r, g) refl ]
    ]

nothing_told : (earlier : List Node) (words : List (List ℕ)) → is_comment words ≡ true → verdict earlier words ≡ Ok Nothing
nothing_told earlier [] h = refl
nothing_told earlier (w ∷ []) h =
    let p = and_parts (starts_with nat_eq w (codes "#")) (not (starts_with nat_eq w (codes "#FRAME"))) h in
    rw p.0 (nothing_alone w (not_true (starts_with nat_eq w (codes "#FRAME")) p.1))
nothing_told earlier (w ∷ v ∷ ws) h =
    let p = and_parts (starts_with nat_eq w (codes "#")) (not (starts_with nat_eq w (codes "#FRAME") || (bytes_eq w (codes "#R") || bytes_eq w (codes "#G")))) h in
    let q = neither (starts_with nat_eq w (codes "#FRAME")) (bytes_eq w (codes "#R") || bytes_eq w (codes "#G")) p.1 in
    let r = neither (bytes_eq w (codes "#R")) (bytes_eq w (codes "#G")) (ap not q.1) in
    rw (p.0, q.0, r.0, r.1) refl

leaf_told : (earlier : List Node) (w : List ℕ) (ws : List (List ℕ)) (o : Option MacroFault) → is_end_or is_leaf_byte w ≡ true → leaf_fault 8 8 w ≡ o → verdict earlier (w ∷ ws) ≡ leaf_verdict w ws o
leaf_told earlier w ws o h e = rw (leaf_is_no_hash w h, h, e) refl

leaf_starts : (w : List ℕ) → leaf_fault 8 8 w ≡ None → is_end_or is_leaf_byte w ≡ true
leaf_starts [] h = refl
leaf_starts (b ∷ bs) h = leaf_begins b bs h

numbers_told : (earlier : List Node) (words : List (List ℕ)) (level nw ne sw se : ℕ) → AreNumbers words level nw ne sw se → verdict earlier words ≡ node_verdict earlier level nw ne sw se
numbers_told earlier [] level nw ne sw se h = absurd h
numbers_told earlier (a ∷ []) level nw ne sw se h = absurd h.1
numbers_told earlier (a ∷ b ∷ []) level nw ne sw se h = absurd h.1.1
numbers_told earlier (a ∷ b ∷ c ∷ []) level nw ne sw se h = absurd h.1.1.1
numbers_told earlier (a ∷ b ∷ c ∷ d ∷ []) level nw ne sw se h = absurd h.1.1.1.1
numbers_told earlier (a ∷ b ∷ c ∷ d ∷ e ∷ []) level nw ne sw se h =
    let da = digits_test a h.0.0 in
    let db = digits_test b h.1.0.0 in
    let dc = digits_test c h.1.1.0.0 in
    let dd = digits_test d h.1.1.1.0.0 in
    let de = digits_test e h.1.1.1.1.0.0 in
    rw (digits_no_hash a da, digits_no_leaf a da, da, db, dc, dd, de, h.0.1, h.1.0.1, h.1.1.0.1, h.1.1.1.0.1, h.1.1.1.1.0.1) refl
numbers_told earlier (a ∷ b ∷ c ∷ d ∷ e ∷ f ∷ ws) level nw ne sw se h = absurd h.1.1.1.1.1

pub states_test : (states : List ℕ) → AllByRecursion (λ s. s ≤ 255) states → list_all (λ s. nat_le s 255) states ≡ true
states_test [] h = refl
states_test (s ∷ ss) h = and_from (nat_le s 255) (list_all (λ s. nat_le s 255) ss) (grind (arith, nat_tests, h.0)) (states_test ss h.1)

pub states_from_test : (states : List ℕ) → list_all (λ s. nat_le s 255) states ≡ true → AllByRecursion (λ s. s ≤ 255) states
states_from_test [] h = tt
states_from_test (s ∷ ss) h =
    let p = and_parts (nat_le s 255) (list_all (λ s. nat_le s 255) ss) h in
    (small s p.0, states_from_test ss p.1)
  where
    small : (s : ℕ) → nat_le s 255 ≡ true → s ≤ 255
    small s e = grind (arith, nat_tests)

level_same : (l level : ℕ) → l ≡ level → (l == level) ≡ true
level_same l level e = grind (arith, nat_tests)

level_from_same : (l level : ℕ) → (l == level) ≡ true → l ≡ level
level_from_same l level e = grind (arith, nat_tests)

pub names_test : (earlier : List Node) (level n : ℕ) → NamesPart earlier level n → names earlier level n ≡ true
names_test earlier level zero h = refl
names_test earlier level (suc i) h = ap (has_level level) h ∙ level_same level level refl

pub names_from_test : (earlier : List Node) (level n : ℕ) → names earlier level n ≡ true → NamesPart earlier level n
names_from_test earlier level zero h = tt
names_from_test earlier level (suc i) h = found (option_map node_level (slice_get earlier i)) refl
  where
    found : (o : Option ℕ) → option_map node_level (slice_get earlier i) ≡ o → option_map node_level (slice_get earlier i) ≡ Some level
    found None e = absurd (true≢false (sym h ∙ ap (has_level level) e))
    found (Some l) e = e ∙ ap Some (level_from_same l level (sym (ap (has_level level) e) ∙ h))

named_within : (earlier : List Node) (level n : ℕ) → NamesPart earlier level n → n ≤ length earlier
named_within earlier level zero h = omega arith
named_within [] level (suc i) h = absurd (let none : None ≡ Some level = h in cc)
named_within (e ∷ es) level (suc zero) h = omega arith
named_within (e ∷ es) level (suc (suc i)) h = let later = named_within es level (suc i) h in omega arith

not_forward : (earlier : List Node) (n : ℕ) → n ≤ length earlier → nat_lt (length earlier) n ≡ false
not_forward earlier n h = grind (arith, nat_tests)

named_no_bad : (earlier : List Node) (level : ℕ) (good more : List ℕ) → AllByRecursion (NamesPart earlier level) good → first_bad earlier level (good ++ more) ≡ first_bad earlier level more
named_no_bad earlier level [] more h = refl
named_no_bad earlier level (n ∷ ns) more h =
    rw (not_forward earlier n (named_within earlier level n h.0), names_test earlier level n h.0) (named_no_bad earlier level ns more h.1)

level_tests : (level : ℕ) → IsLevel level → (((level == 0) || nat_lt 120 level) ≡ false) × ((level == 1) ≡ false)
level_tests level h = (grind (arith, nat_tests, h.0, h.1), grind (arith, nat_tests, h.0))

parts_told : (earlier : List Node) (level nw ne sw se : ℕ) (o : Option MacroFault) → IsLevel level → first_bad earlier (level - 1) (nw ∷ ne ∷ sw ∷ se ∷ []) ≡ o
    → node_verdict earlier level nw ne sw se ≡ parts_verdict level nw ne sw se o
parts_told earlier level nw ne sw se o l e = rw ((level_tests level l).0, (level_tests level l).1, e) refl

bad_told : (earlier : List Node) (words : List (List ℕ)) (P : ℕ → ℕ → Type 0) (f : MacroFault) → ((level n : ℕ) (more : List ℕ) → P level n → first_bad earlier level (n ∷ more) ≡ Some f)
    → HavePart earlier words P → verdict earlier words ≡ Err f
bad_told earlier words P f bad (level, nw, ne, sw, se, numbers, l, part) =
    numbers_told earlier words level nw ne sw se numbers
    ∙ parts_told earlier level nw ne sw se (Some f) l
    (ap (first_bad earlier (level - 1)) part.spelled ∙ (named_no_bad earlier (level - 1) part.good (part.number ∷ part.more) part.named ∙ bad (level - 1) part.number part.more part.holds))

forward_bad : (earlier : List Node) (level n : ℕ) (more : List ℕ) → length earlier < n → first_bad earlier level (n ∷ more) ≡ Some Forward
forward_bad earlier level n more h = let e : nat_lt (length earlier) n ≡ true = grind (arith, nat_tests) in rw e refl

level_bad : (earlier : List Node) (level n : ℕ) (more : List ℕ) → (n ≤ length earlier) × (NamesPart earlier level n → ⊥) → first_bad earlier level (n ∷ more) ≡ Some Level
level_bad earlier level n more h =
    elim (cases_Bool (names earlier level n)) [
      | inl t ↦ absurd (h.1 (names_from_test earlier level n t))
      | inr f ↦ rw (not_forward earlier n h.0, f) refl
    ]

pub said_told : (earlier : List Node) (words : List (List ℕ)) (s : MacrocellLine) → MacrocellWordsSay words s → IsAllowedNode earlier s → verdict earlier words ≡ Ok s
said_told earlier words Nothing h allowed = nothing_told earlier words h
said_told earlier words (Rule text) h allowed = ap (verdict earlier) h.1
said_told earlier words (Generation count) (digits, spelled, number, low) allowed =
    let same = number.1 in
    let e : nat_lt (value digits) generation_limit ≡ true = grind (arith, nat_tests) in
    ap (verdict earlier) spelled ∙ rw (digits_test digits number.0, e) (ap (λ n. Ok (Generation n)) (sym same))
said_told earlier words (Adds (Leaf rows)) (leaf, spelled, is) allowed =
    let none = leaf_none leaf rows is in
    ap (verdict earlier) spelled ∙ leaf_told earlier leaf [] None (leaf_starts leaf none) none ∙ ap (λ r. Ok (Adds (Leaf r))) (one_leaf leaf rows is)
said_told earlier words (Adds (Cells nw ne sw se)) h allowed =
    numbers_told earlier words 1 nw ne sw se h ∙ rw (states_test (nw ∷ ne ∷ sw ∷ se ∷ []) allowed) refl
said_told earlier words (Adds (Parts level nw ne sw se)) h allowed =
    numbers_told earlier words level nw ne sw se h
    ∙ parts_told earlier level nw ne sw se None allowed.0 (named_no_bad earlier (level - 1) (nw ∷ ne ∷ sw ∷ se ∷ []) [] allowed.1)

-- ---- a fault is the verdict

frame_is_hash : (w : List ℕ) → starts_with nat_eq w (codes "#FRAME") ≡ true → starts_with nat_eq w (codes "#") ≡ true
frame_is_hash [] h = h
frame_is_hash (b ∷ bs) h =
    elim (cases_Bool (35 == b)) [
      | inl t ↦ rw t refl
      | inr f ↦ absurd (true≢false (sym h ∙ rw f refl))
    ]

generation_bad : (ws : List (List ℕ)) → ws ≢ [] → ((digits : List ℕ) → ws ≡ digits ∷ [] → AreDigits digits → ⊥) → generation_verdict ws ≡ Err Syntax
generation_bad [] some bad = absurd (some refl)
generation_bad (d ∷ []) some bad =
    elim (cases_Bool (are_digits d)) [
      | inl t ↦ absurd (bad d refl (digits_from_test d t))
      | inr f ↦ rw f refl
    ]
generation_bad (d ∷ e ∷ ws) some bad = refl

good_starts : (w good : List ℕ) (byte : ℕ) (more : List ℕ) (rows : List (List Bool)) → good ≢ [] → IsLeaf good rows → w ≡ good ++ byte ∷ more → is_end_or is_leaf_byte w ≡ true
good_starts w [] byte more rows some leaf e = absurd (some refl)
good_starts w (g ∷ gs) byte more rows some leaf e = ap (is_end_or is_leaf_byte) e ∙ leaf_begins g gs (leaf_none (g ∷ gs) rows leaf)

bad_leaf_told : (earlier : List Node) (words : List (List ℕ)) (w : List ℕ) (ws : List (List ℕ)) (test : ℕ → Bool) (f : MacroFault) → words ≡ w ∷ ws → (bad : HasBadByte w test)
    → byte_fault bad.byte ≡ Some f → verdict earlier words ≡ Err f
bad_leaf_told earlier words w ws test f spelled bad e =
    ap (verdict earlier) spelled ∙ leaf_told earlier w ws (Some f) (good_starts w bad.good bad.byte bad.more bad.rows bad.some bad.leaf bad.spelled) (bad_fault w test bad ∙ e)

after_leaf_told : (earlier : List Node) (w : List ℕ) (ws : List (List ℕ)) (rows : List (List Bool)) → IsLeaf w rows → ws ≢ [] → verdict earlier (w ∷ ws) ≡ Err Syntax
after_leaf_told earlier w [] rows leaf some = absurd (some refl)
after_leaf_told earlier w (v ∷ ws) rows leaf some = let none = leaf_none w rows leaf in leaf_told earlier w (v ∷ ws) None (leaf_starts w none) none

other_begins : (b : ℕ) → not ((b == letter "#") || is_leaf_byte b) ≡ true → ((b == 35) ≡ false) × (is_leaf_byte b ≡ false)
other_begins b h = neither (b == 35) (is_leaf_byte b) h

no_numbers_bad : (earlier : List Node) (words : List (List ℕ)) → ((level nw ne sw se : ℕ) → AreNumbers words level nw ne sw se → ⊥) → number_verdict earlier words ≡ Err Syntax
no_numbers_bad earlier [] h = refl
no_numbers_bad earlier (a ∷ []) h = refl
no_numbers_bad earlier (a ∷ b ∷ []) h = refl
no_numbers_bad earlier (a ∷ b ∷ c ∷ []) h = refl
no_numbers_bad earlier (a ∷ b ∷ c ∷ d ∷ []) h = refl
no_numbers_bad earlier (a ∷ b ∷ c ∷ d ∷ e ∷ []) h =
    elim (cases_Bool (are_digits a && (are_digits b && (are_digits c && (are_digits d && are_digits e))))) [
      | inl t ↦
          let p = and_parts (are_digits a) (are_digits b && (are_digits c && (are_digits d && are_digits e))) t in
          let q = and_parts (are_digits b) (are_digits c && (are_digits d && are_digits e)) p.1 in
          let r = and_parts (are_digits c) (are_digits d && are_digits e) q.1 in
          let s = and_parts (are_digits d) (are_digits e) r.1 in
          absurd (h (value a) (value b) (value c) (value d) (value e)
          ((digits_from_test a p.0, refl), ((digits_from_test b q.0, refl), ((digits_from_test c r.0, refl), ((digits_from_test d s.0, refl), ((digits_from_test e s.1, refl), tt))))))
      | inr f ↦ rw f refl
    ]
no_numbers_bad earlier (a ∷ b ∷ c ∷ d ∷ e ∷ f ∷ ws) h = refl

lack_told : (earlier : List Node) (words : List (List ℕ)) → LackNumbers words → verdict earlier words ≡ Err Syntax
lack_told earlier [] h = absurd (true≢false (sym h.0))
lack_told earlier ([] ∷ ws) h = absurd (true≢false (sym h.0))
lack_told earlier ((b ∷ bs) ∷ ws) h =
    let o = other_begins b h.0 in
    rw (hash_first b bs o.0, o.1) (no_numbers_bad earlier ((b ∷ bs) ∷ ws) h.1)

no_level_test : (level : ℕ) → (level ≡ 0) ⊎ (120 < level) → ((level == 0) || nat_lt 120 level) ≡ true
no_level_test level (inl h) = rw h refl
no_level_test level (inr h) =
    let e : nat_lt 120 level ≡ true = grind (arith, nat_tests) in
    elim (cases_Bool (level == 0)) [ inl t ↦ rw t refl | inr f ↦ rw (f, e) refl ]

size_fault : (b : ℕ) → is_leaf_byte b ≡ true → byte_fault b ≡ Some LeafSize
size_fault b h = rw h refl

other_fault : (b : ℕ) → not (is_leaf_byte b) ≡ true → byte_fault b ≡ Some Syntax
other_fault b h = rw (not_true (is_leaf_byte b) h) refl

large_state_told : (nw ne sw se : ℕ) (earlier : List Node) → (AllByRecursion (λ s. s ≤ 255) (nw ∷ ne ∷ sw ∷ se ∷ []) → ⊥) → node_verdict earlier 1 nw ne sw se ≡ Err Syntax
large_state_told nw ne sw se earlier h =
    elim (cases_Bool (list_all (λ s. nat_le s 255) (nw ∷ ne ∷ sw ∷ se ∷ []))) [
      | inl t ↦ absurd (h (states_from_test (nw ∷ ne ∷ sw ∷ se ∷ []) t))
      | inr f ↦ rw f refl
    ]

pub fault_told : (earlier : List Node) (words : List (List ℕ)) (f : MacroFault) → AreFaulty f earlier words → verdict earlier words ≡ Err f
fault_told earlier words NotMacro h = absurd h
fault_told earlier words Timeline (w, ws, spelled, frame) = ap (verdict earlier) spelled ∙ rw (frame_is_hash w frame, frame) refl
fault_told earlier words Syntax (inl (after, spelled, some, bad)) = ap (verdict earlier) spelled ∙ generation_bad after some bad
fault_told earlier words Syntax (inr (inl (w, ws, spelled, inl bad))) = bad_leaf_told earlier words w ws (λ b. not (is_leaf_byte b)) Syntax spelled bad (other_fault bad.byte bad.passes)
fault_told earlier words Syntax (inr (inl (w, ws, spelled, inr (leaf, some)))) = ap (verdict earlier) spelled ∙ after_leaf_told earlier w ws leaf.0 leaf.1 some
fault_told earlier words Syntax (inr (inr (inl lack))) = lack_told earlier words lack
fault_told earlier words Syntax (inr (inr (inr (nw, ne, sw, se, numbers, large)))) = numbers_told earlier words 1 nw ne sw se numbers ∙ large_state_told nw ne sw se earlier large
fault_told earlier words Forward h = bad_told earlier words (λ level number. length earlier < number) Forward (forward_bad earlier) h
fault_told earlier words Level (inl (level, nw, ne, sw, se, numbers, none)) = numbers_told earlier words level nw ne sw se numbers ∙ rw (no_level_test level none) refl
fault_told earlier words Level (inr h) = bad_told earlier words (λ level number. (number ≤ length earlier) × (NamesPart earlier level number → ⊥)) Level (level_bad earlier) h
fault_told earlier words LeafSize (w, ws, spelled, bad) = bad_leaf_told earlier words w ws is_leaf_byte LeafSize spelled bad (size_fault bad.byte bad.passes)
fault_told earlier words Range h = absurd h
fault_told earlier words GenTooLarge (digits, spelled, are, large) =
    let e : nat_lt (value digits) generation_limit ≡ false = grind (arith, nat_tests) in
    ap (verdict earlier) spelled ∙ rw (digits_test digits are, e) refl
fault_told earlier words Memory h = absurd h

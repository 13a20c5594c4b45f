-- Lines of items as they are written spell the items.
use Rattle.std.proofs.Common.{◌≡◌, ℕ, ◌+◌, ◌-◌, ◌/◌, ◌%◌, ◌<◌, ◌≤◌, ◌^◌, ◌==◌, true, false, nat_le, if◌then◌else◌, inl, inr, List, [], ◌∷◌, ◌++◌, map, Some, codes, decimal, refl, sym, ap, subst, append_assoc, arith}
use Rattle.std.specs.List.{flat_map, concat, AllByRecursion}
use Rattle.std.proofs.lemmas.Bool.{cases_Bool, eqb-true, eqb-false}
use Rattle.std.proofs.lemmas.Bool.Decides.{nat_tests}
use Rattle.ca_rle.specs.declared.item.{Item.Item, Tag.Tag}
use Rattle.ca_rle.specs.declared.item.Tag.TheVariants.{Cell, RowEnd}
use Rattle.ca_rle.specs.Prelude.{is_letter, is_prefix, prefixed_state, tag_of, IsWhite, IsCount, IsItem, Items, tag_state, line_with_lf, letters_of, tag_text, count_text, item_text, HaveStates}
use Rattle.ca_rle.proofs.White.{IsWhite-append}
use Rattle.ca_plane.proofs.Decimals.{Writes, decimal_writes}

-- ---- tags

-- one letter, for a state from 1 to 24
one_letter : (s : ℕ) → 0 < s → s ≤ 24 → tag_of ((64 + s) ∷ []) ≡ Some (Cell s)
one_letter s low high =
    let b : (64 + s == 98) ≡ false = grind (arith, nat_tests) in
    let dot : (64 + s == 46) ≡ false = grind (arith, nat_tests) in
    let o : (64 + s == 111) ≡ false = grind (arith, nat_tests) in
    let letter : is_letter (64 + s) ≡ true = grind (arith, nat_tests) in
    let state : (64 + s) - 64 ≡ s = omega arith in
    rw (b, dot, o, letter, state) refl

-- a prefix and a letter, for a state from 25 to 255
two_letters : (s : ℕ) → 24 < s → s ≤ 255 → tag_of ((111 + (s - 1) / 24) ∷ (65 + (s - 1) % 24) ∷ []) ≡ Some (Cell s)
two_letters s low high =
    let prefix : is_prefix (111 + (s - 1) / 24) ≡ true = grind (arith, nat_tests) in
    let letter : is_letter (65 + (s - 1) % 24) ≡ true = grind (arith, nat_tests) in
    let state : prefixed_state (111 + (s - 1) / 24) (65 + (s - 1) % 24) ≡ s = omega arith in
    let byte : nat_le s 255 ≡ true = grind (arith, nat_tests) in
    rw (prefix, letter, state, byte) refl

letters_mean : (s : ℕ) → s ≤ 255 → tag_of (letters_of s) ≡ Some (Cell s)
letters_mean s high =
    elim (cases_Bool (s == 0)) [
      | inl e ↦ rw e (ap (λ n. Some (Cell n)) (sym (eqb-true s 0 e)))
      | inr e ↦
          let some = eqb-false s 0 e in
          elim (cases_Bool (nat_le s 24)) [
            | inl f ↦ rw (e, f) (one_letter s (omega arith) (grind (arith, nat_tests)))
            | inr f ↦ rw (e, f) (two_letters s (grind (arith, nat_tests)) high)
          ]
    ]

-- `b` and `o`, for the states 0 and 1
short_letter : (s : ℕ) → (0 < s → s < 2) → tag_of (if s == 0 then codes "b" else codes "o") ≡ Some (Cell s)
short_letter s two =
    elim (cases_Bool (s == 0)) [
      | inl e ↦ rw e (ap (λ n. Some (Cell n)) (sym (eqb-true s 0 e)))
      | inr e ↦
          let some = eqb-false s 0 e in
          let few = two (omega arith) in
          let one : 1 ≡ s = omega arith in
          rw e (ap (λ n. Some (Cell n)) one)
    ]

pub tag_means : (states : ℕ) (t : Tag) → tag_state t ≤ 255 → (0 < tag_state t → tag_state t < states) → tag_of (tag_text states t) ≡ Some t
tag_means states RowEnd high few = refl
tag_means states (Cell s) high few =
    elim (cases_Bool (states == 2)) [
      | inl e ↦ rw e (short_letter s (λ h. subst (λ n. s < n) (eqb-true states 2 e) (few h)))
      | inr e ↦ rw e (letters_mean s high)
    ]

-- ---- items

count_from_digits : (digits : List ℕ) (n : ℕ) → 0 < n → Writes n digits → IsCount digits n
count_from_digits [] n low w = absurd cc
count_from_digits (d ∷ ds) n low w = (w.0, w.1, low)

count_means : (n : ℕ) → 0 < n → n < 2 ^ 64 → IsCount (count_text n) n
count_means n low high =
    elim (cases_Bool (n == 1)) [
      | inl e ↦ rw e (eqb-true n 1 e)
      | inr e ↦ rw e (count_from_digits (decimal n) n low (decimal_writes n high))
    ]

-- the written count and tag mean the item
pub record IsWritten (states : ℕ) (i : Item) : Type 0 where
  pub count : IsCount (count_text i.count) i.count
  pub tag : tag_of (tag_text states i.tag) ≡ Some i.tag

pub all_written : (states : ℕ) (is : List Item) → AllByRecursion (λ i. (0 < i.count) × (i.count < 2 ^ 64)) is → HaveStates states is → AllByRecursion (IsWritten states) is
all_written states [] counts have = tt
all_written states (i ∷ is) (c, cs) (h, hs) = (record { count = count_means i.count c.0 c.1; tag = tag_means states i.tag h.0 h.1 }, all_written states is cs hs)

-- an item after white space
item_after : (states : ℕ) (i : Item) (white : List ℕ) → IsWhite white → IsWritten states i → IsItem (white ++ item_text states i) i
item_after states i white w h = (white, count_text i.count, [], tag_text states i.tag, w, h.count, refl, h.tag, refl)

-- one more item in front of spelled ones
one_more : (states : ℕ) (i : Item) (is : List Item) (white more : List ℕ) → IsWhite white → IsWritten states i → Items more is → Items (white ++ (item_text states i ++ more)) (i ∷ is)
one_more states i is white more w h (rest, run, end) =
    (rest, (white ++ item_text states i, more, item_after states i white w h, run, sym (append_assoc white (item_text states i) more)), end)

-- ---- lines

-- the lines, each with its LF
abbrev pub text_of : List (List (List ℕ)) → List ℕ
text_of lines = flat_map (λ line. line_with_lf (concat line)) lines

-- the items and then `!`, as they are written
abbrev pub tokens : ℕ → List Item → List (List ℕ)
tokens states is = map (item_text states) is ++ codes "!" ∷ []

-- a line's items, and then what the other lines spell
line_spells : (states : ℕ) (line more : List (List ℕ)) (later : List ℕ) (is : List Item) (white : List ℕ)
    → IsWhite white → AllByRecursion (IsWritten states) is → line ++ more ≡ tokens states is
    → ((js : List Item) (space : List ℕ) → IsWhite space → AllByRecursion (IsWritten states) js → more ≡ tokens states js → Items (space ++ later) js)
    → Items (white ++ ((concat line ++ 10 ∷ []) ++ later)) is
line_spells states [] more later is white w all e others =
    subst (λ l. Items l is) (append_assoc white (10 ∷ []) later) (others is (white ++ 10 ∷ []) (IsWhite-append white (10 ∷ []) w refl) all e)
line_spells states (t ∷ ts) more later [] white w all e others =
    let mark : t ≡ codes "!" = cc in
    let whole : white ++ (((t ++ concat ts) ++ 10 ∷ []) ++ later) ≡ white ++ 33 ∷ ((concat ts ++ 10 ∷ []) ++ later) = ap (λ l. white ++ (((l ++ concat ts) ++ 10 ∷ []) ++ later)) mark in
    (_, refl, (white, (concat ts ++ 10 ∷ []) ++ later, w, whole))
line_spells states (t ∷ ts) more later (i ∷ is) white w (h, hs) e others =
    let first : t ≡ item_text states i = cc in
    let next : ts ++ more ≡ tokens states is = cc in
    let after = line_spells states ts more later is [] refl hs next others in
    let whole : white ++ (item_text states i ++ ((concat ts ++ 10 ∷ []) ++ later)) ≡ white ++ (((t ++ concat ts) ++ 10 ∷ []) ++ later) = rw first (simp append_assoc) in
    subst (λ l. Items l (i ∷ is)) whole (one_more states i is white _ w h after)

-- lines of whole items spell them, after white space
pub lines_spell : (states : ℕ) (lines : List (List (List ℕ))) (is : List Item) (white : List ℕ)
    → IsWhite white → AllByRecursion (IsWritten states) is → flat_map (λ line. line) lines ≡ tokens states is → Items (white ++ text_of lines) is
lines_spell states [] [] white w all e = absurd cc
lines_spell states [] (i ∷ is) white w all e = absurd cc
lines_spell states (l ∷ ls) is white w all e = line_spells states l (flat_map (λ line. line) ls) (text_of ls) is white w all e (λ js space s h f. lines_spell states ls js space s h f)

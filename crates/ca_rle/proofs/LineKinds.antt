-- A line is a header or none, and XLife's rule line or none.
use Rattle.std.proofs.Common.{◌≡◌, ℕ, ◌⊎◌, inl, inr, Bool, true, false, cond, not, ◌&&◌, ◌==◌, IsTrue, List, [], ◌∷◌, ◌++◌, Option, Some, None, option_and_then, codes, refl, sym, ap, ap₂, subst, ◌∙◌, eqb-true, true≢false}
use Rattle.std.specs.List.{AllByRecursion, list_all}
use Rattle.std.proofs.lemmas.Bool.{and_parts, and_from, cases_Bool}
use Rattle.std.proofs.lemmas.Option.{same_Some}
use Rattle.ca_plane.specs.Prelude.{Every, is_blank, is_line_end, is_word_byte, is_end_or, front, rest, IsWord, without_cr}
use Rattle.ca_plane.proofs.Lines.{ends_by_blank}
use Rattle.ca_rle.specs.Prelude.{Part, size_parts, rule_parts, IsHeader, IsXlifeLine, IsLine}
use Rattle.ca_plane.proofs.Fronts.{rest_ends, every_right, every_rest, front_then_rest, every_front, rest_append}
use Rattle.ca_rle.specs.inner.HeaderParts.{parts_left, part_left}
use Rattle.ca_rle.proofs.Headers.{has_more, no_header, parts_found, spaced_found, header_found}

-- ---- headers

left_then : (f : List ℕ → Option (List ℕ)) (o : Option (List ℕ)) (more : List ℕ) (P : Type 0) → ((bytes : List ℕ) → f bytes ≡ Some more → P) → option_and_then f o ≡ Some more → P
left_then f None more P step e = absurd cc
left_then f (Some bytes) more P step e = step bytes e

-- no blank stands at the front of what parts leave
no_blank_left : (ps : List Part) (more bytes : List ℕ) → parts_left ps bytes ≡ Some more → is_end_or (λ b. not (is_blank b)) more ≡ true
no_blank_left [] more bytes e = subst (λ (l : List ℕ). is_end_or (λ b. not (is_blank b)) l ≡ true) (same_Some (rest is_blank bytes) more e) (rest_ends is_blank bytes)
no_blank_left (p ∷ ps) more bytes e = left_then (parts_left ps) (part_left p (rest is_blank bytes)) more _ (no_blank_left ps more) e

word_front : (b : ℕ) (passed : List ℕ) (v : Bool) → is_word_byte b ≡ v → v ≡ true → Every is_word_byte passed → IsWord (cond v (b ∷ passed) [])
word_front b passed true e h p = and_from (is_word_byte b) (list_all is_word_byte passed) e p
word_front b passed false e h p = absurd cc

-- a word stands at the front of what is left of a line, where anything is
word_left : (line : List ℕ) (b : ℕ) (bs : List ℕ) → IsLine line → parts_left (size_parts rule_parts) line ≡ Some (b ∷ bs) → IsHeader line (Some (front is_word_byte (b ∷ bs)))
word_left line b bs h e =
    let found = parts_found (size_parts rule_parts) line (b ∷ bs) e in
    let left : IsLine (b ∷ bs) = every_right (λ c. not (is_line_end c)) found.0 (b ∷ bs) (subst IsLine found.2 h) in
    let byte : is_word_byte b ≡ true = and_from (not (is_blank b)) (not (is_line_end b)) (no_blank_left (size_parts rule_parts) (b ∷ bs) line e) (and_parts (not (is_line_end b)) (list_all (λ c. not (is_line_end c)) bs) left).0 in
    let word = word_front b (front is_word_byte bs) (is_word_byte b) refl byte (every_front is_word_byte bs) in
    let ends = ends_by_blank (rest is_word_byte (b ∷ bs)) (every_rest is_word_byte (λ c. not (is_line_end c)) (b ∷ bs) left) (rest_ends is_word_byte (b ∷ bs)) in
    header_found line (front is_word_byte (b ∷ bs)) (rest is_word_byte (b ∷ bs)) (e ∙ ap Some (sym (front_then_rest is_word_byte (b ∷ bs)))) word ends

-- a line is a header, or none
abbrev pub HeaderOrNot : List ℕ → Type 0
HeaderOrNot line = ((rule : Option (List ℕ)) × IsHeader line rule) ⊎ ((rule : Option (List ℕ)) → IsHeader line rule → ⊥)

short_header_or_not : (line : List ℕ) (o : Option (List ℕ)) → parts_left (size_parts rule_parts) line ≡ None → parts_left (size_parts []) line ≡ o → HeaderOrNot line
short_header_or_not line None n e = inr (no_header line (ap has_more e) n)
short_header_or_not line (Some []) n e = inl (None, inl (spaced_found (size_parts []) line e))
short_header_or_not line (Some (b ∷ bs)) n e = inr (no_header line (ap has_more e) n)

long_header_or_not : (line : List ℕ) (o : Option (List ℕ)) → IsLine line → parts_left (size_parts rule_parts) line ≡ o → HeaderOrNot line
long_header_or_not line None h e = short_header_or_not line (parts_left (size_parts []) line) e refl
long_header_or_not line (Some []) h e = inl (None, inr (spaced_found (size_parts rule_parts) line e))
long_header_or_not line (Some (b ∷ bs)) h e = inl (Some (front is_word_byte (b ∷ bs)), word_left line b bs h e)

-- a line is a header, or none
pub header_or_not : (line : List ℕ) → IsLine line → HeaderOrNot line
header_or_not line h = long_header_or_not line (parts_left (size_parts rule_parts) line) h refl

-- ---- XLife's rule lines

-- `#r` and a blank
abbrev begins_xlife : List ℕ → Bool
begins_xlife [] = false
begins_xlife (a ∷ []) = false
begins_xlife (a ∷ b ∷ []) = false
begins_xlife (a ∷ b ∷ c ∷ cs) = ((a == 35) && (b == 114)) && is_blank c

xlife_begins : (bytes : List ℕ) → begins_xlife bytes ≡ true → (blank : ℕ) × (more : List ℕ) × IsTrue (is_blank blank) × (bytes ≡ codes "#r" ++ blank ∷ more)
xlife_begins [] h = absurd (true≢false (sym h))
xlife_begins (a ∷ []) h = absurd (true≢false (sym h))
xlife_begins (a ∷ b ∷ []) h = absurd (true≢false (sym h))
xlife_begins (a ∷ b ∷ c ∷ cs) h =
    let tests = and_parts ((a == 35) && (b == 114)) (is_blank c) h in
    let letters = and_parts (a == 35) (b == 114) tests.0 in
    (c, cs, tests.1, ap₂ (λ (x y : ℕ). x ∷ y ∷ c ∷ cs) (eqb-true a 35 letters.0) (eqb-true b 114 letters.1))

xlife_found : (line : List ℕ) → begins_xlife (rest is_blank (without_cr line)) ≡ true → IsXlifeLine line
xlife_found line h =
    let b = xlife_begins (rest is_blank (without_cr line)) h in
    (front is_blank (without_cr line), b.0, b.1, every_front is_blank (without_cr line), b.2, sym (front_then_rest is_blank (without_cr line)) ∙ ap (λ (l : List ℕ). front is_blank (without_cr line) ++ l) b.3)

xlife_is : (line : List ℕ) → IsXlifeLine line → begins_xlife (rest is_blank (without_cr line)) ≡ true
xlife_is line (blanks, blank, more, b, h, e) = ap (λ (l : List ℕ). begins_xlife (rest is_blank l)) e ∙ ap begins_xlife (rest_append is_blank blanks (codes "#r" ++ blank ∷ more) b refl) ∙ h

-- a line is XLife's, or not
pub xlife_or_not : (line : List ℕ) → IsXlifeLine line ⊎ (IsXlifeLine line → ⊥)
xlife_or_not line =
    elim (cases_Bool (begins_xlife (rest is_blank (without_cr line)))) [
      | inl h ↦ inl (xlife_found line h)
      | inr h ↦ inr (λ x. true≢false (sym (xlife_is line x) ∙ h))
    ]

-- a line of these that is XLife's, with those before and after it
pub record HasXlifeLine (lines : List (List ℕ)) : Type 0 where
  pub earlier : List (List ℕ)
  pub xlife : List ℕ
  pub others : List (List ℕ)
  pub is_xlife : IsXlifeLine xlife
  pub among : lines ≡ earlier ++ xlife ∷ others

-- one of the lines is XLife's, or none is
abbrev pub XlifeOrNone : List (List ℕ) → Type 0
XlifeOrNone lines = HasXlifeLine lines ⊎ AllByRecursion (λ l. IsXlifeLine l → ⊥) lines

with_line : (line : List ℕ) (lines : List (List ℕ)) → (IsXlifeLine line → ⊥) → XlifeOrNone lines → XlifeOrNone (line ∷ lines)
with_line line lines n (inl h) = inl (record { earlier = line ∷ h.earlier; xlife = h.xlife; others = h.others; is_xlife = h.is_xlife; among = ap (λ (l : List (List ℕ)). line ∷ l) h.among })
with_line line lines n (inr none) = inr (n, none)

-- one of some lines is XLife's, or none is
pub xlife_or_none : (lines : List (List ℕ)) → XlifeOrNone lines
xlife_or_none [] = inr tt
xlife_or_none (l ∷ ls) =
    elim (xlife_or_not l) [
      | inl h ↦ inl (record { earlier = []; xlife = l; others = ls; is_xlife = h; among = refl })
      | inr n ↦ with_line l ls n (xlife_or_none ls)
    ]

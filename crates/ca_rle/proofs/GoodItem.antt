-- Where bytes have no fault, an item stands at their front, or the end of the pattern.
use Rattle.std.proofs.Common.{◌≡◌, ℕ, ◌<◌, ◌⊎◌, inl, inr, Bool, true, false, cond, ◌==◌, List, [], ◌∷◌, ◌++◌, Option, Some, None, is_some, nat_le, refl, sym, ap, subst, ◌∙◌, eqb-true, true≢false, arith}
use Rattle.std.proofs.lemmas.Bool.{cond_both}
use Rattle.std.proofs.lemmas.Bool.Decides.{nat_tests}
use Rattle.std.proofs.lemmas.Option.{none-some}
use Rattle.ca_plane.specs.Prelude.{is_digit, front, rest, value}
use Rattle.ca_rle.specs.declared.{fault.RleFault.RleFault, item.Item.Item, item.Tag.Tag}
use Rattle.ca_rle.specs.declared.fault.RleFault.TheVariants.{Syntax, NoEnd, BadState}
use Rattle.ca_rle.specs.declared.item.Tag.TheVariants.{Cell}
use Rattle.ca_rle.specs.Prelude.{InLine, is_letter, is_prefix, prefixed_state, tag_of, Run, IsEnd, after_white, letter_fault, tag_fault, count_fault, item_fault}
use Rattle.ca_plane.proofs.Fronts.{front_then_rest}
use Rattle.ca_rle.proofs.White.{Stops_above, after_white_is}
use Rattle.ca_rle.proofs.ItemAt.{tag_byte, tag_at_is, count_of, item_at}
use Rattle.ca_rle.proofs.ReadItems.{end_found, run_found}

-- ---- tags

-- a tag stands at the front of the bytes
abbrev BeginsTag : List ℕ → Type 0
BeginsTag bytes = (letters : List ℕ) × (more : List ℕ) × (t : Tag) × (tag_of letters ≡ Some t) × (bytes ≡ letters ++ more)

not_none : {A : Type 0} (o : Option A) → is_some o ≡ true → (x : A) × (o ≡ Some x)
not_none None h = absurd cc
not_none (Some x) h = (x, refl)

-- a prefix and its letter are a tag, where the state isn't too large
letter_tag : (p : ℕ) (bs : List ℕ) → is_prefix p ≡ true → letter_fault p bs ≡ None → BeginsTag (p ∷ bs)
letter_tag p [] h = λ e. absurd (none-some NoEnd (sym e))
letter_tag p (b ∷ bs) h =
    cond_both (is_letter b) _ _ (λ (o : Option RleFault). o ≡ None → BeginsTag (p ∷ b ∷ bs))
    (λ letter. cond_both (nat_le (prefixed_state p b) 255) _ _ (λ (o : Option RleFault). o ≡ None → BeginsTag (p ∷ b ∷ bs))
    (λ small e. (p ∷ b ∷ [], bs, Cell (prefixed_state p b), rw (h, letter, small) refl, refl))
    (λ large e. absurd (none-some BadState (sym e))))
    (λ other e. absurd (none-some Syntax (sym e)))

-- `!` stands at the front of the bytes, where no count stands before it
abbrev BeginsEnd : Bool → List ℕ → Type 0
BeginsEnd counted bytes = (counted ≡ false) × ((ignored : List ℕ) × (bytes ≡ 33 ∷ ignored))

uncounted : (counted : Bool) → cond counted (Some Syntax) None ≡ None → counted ≡ false
uncounted true e = absurd (none-some Syntax (sym e))
uncounted false e = refl

-- where the tag has no fault, it stands there, or `!` does
good_tag : (counted : Bool) (bytes : List ℕ) → tag_fault counted bytes ≡ None → BeginsEnd counted bytes ⊎ BeginsTag bytes
good_tag counted [] = λ e. absurd (none-some NoEnd (sym e))
good_tag counted (b ∷ bs) =
    cond_both (b == 33) _ _ (λ (o : Option RleFault). o ≡ None → BeginsEnd counted (b ∷ bs) ⊎ BeginsTag (b ∷ bs))
    (λ end e. inl (uncounted counted e, (bs, ap (λ (c : ℕ). c ∷ bs) (eqb-true b 33 end))))
    (λ other. cond_both (is_some (tag_of (b ∷ []))) _ _ (λ (o : Option RleFault). o ≡ None → BeginsEnd counted (b ∷ bs) ⊎ BeginsTag (b ∷ bs))
    (λ tag e. let t = not_none (tag_of (b ∷ [])) tag in inr (b ∷ [], bs, t.0, t.1, refl))
    (λ none. cond_both (is_prefix b) _ _ (λ (o : Option RleFault). o ≡ None → BeginsEnd counted (b ∷ bs) ⊎ BeginsTag (b ∷ bs))
    (λ prefix e. inr (letter_tag b bs prefix e))
    (λ unknown e. absurd (none-some Syntax (sym e)))))

-- ---- items

-- an item at the front of the bytes, or the end of the pattern
abbrev pub IsItemOrEnd : List ℕ → Type 0
IsItemOrEnd bytes = ((i : Item) × (more : List ℕ) × Run bytes (i ∷ []) more) ⊎ IsEnd bytes

-- digits and a tag at the front are an item
read_tag : (bytes : List ℕ) (n : ℕ) → 0 < n → count_of (front is_digit (after_white InLine bytes)) ≡ n → BeginsTag (after_white InLine (rest is_digit (after_white InLine bytes))) → IsItemOrEnd bytes
read_tag bytes n h c (letters, more, t, e, spelled) =
    let read : item_at bytes ≡ Some (record { count = n; tag = t }, more) = rw (c, spelled, tag_at_is letters more t e) refl in
    inl (record { count = n; tag = t }, more, run_found bytes more more (record { count = n; tag = t }) [] read h refl)

-- no white space stands before a tag
at_tag : (bytes : List ℕ) → BeginsTag bytes → after_white InLine bytes ≡ bytes
at_tag bytes ([], more, t, e, spelled) = absurd cc
at_tag bytes (b ∷ bs, more, t, e, spelled) = ap (after_white InLine) spelled ∙ after_white_is InLine [] b (bs ++ more) (Stops_above b (tag_byte b bs t e).0) refl ∙ sym spelled

above_0 : (n : ℕ) → (n == 0) ≡ false → 0 < n
above_0 n h = grind (arith, nat_tests)

-- a unit without a fault, by its digits and what stands after them
read_unit : (bytes digits after : List ℕ) → front is_digit (after_white InLine bytes) ≡ digits → rest is_digit (after_white InLine bytes) ≡ after → count_fault digits after ≡ None → IsItemOrEnd bytes
read_unit bytes [] after d a = λ e.
    elim (good_tag false after e) [
      | inl end ↦ inr (end_found bytes end.1.0 (sym (front_then_rest is_digit (after_white InLine bytes)) ∙ ap (λ (l : List ℕ). l ++ rest is_digit (after_white InLine bytes)) d ∙ a ∙ end.1.1))
      | inr tag ↦ read_tag bytes 1 (omega arith) (ap count_of d) (subst BeginsTag (sym (at_tag after tag) ∙ ap (after_white InLine) (sym a)) tag)
    ]
read_unit bytes (c ∷ cs) after d a =
    cond_both (value (c ∷ cs) == 0) _ _ (λ (o : Option RleFault). o ≡ None → IsItemOrEnd bytes)
    (λ none e. absurd (none-some Syntax (sym e)))
    (λ more e. elim (good_tag true (after_white InLine after) e) [
      | inl end ↦ absurd (true≢false end.0)
      | inr tag ↦ read_tag bytes (value (c ∷ cs)) (above_0 (value (c ∷ cs)) more) (ap count_of d) (subst BeginsTag (ap (after_white InLine) (sym a)) tag)
    ])

-- where bytes have no fault, an item stands at their front, or the end of the pattern
pub good_item_or_end : (bytes : List ℕ) → item_fault bytes ≡ None → ((i : Item) × (more : List ℕ) × Run bytes (i ∷ []) more) ⊎ IsEnd bytes
good_item_or_end bytes = read_unit bytes (front is_digit (after_white InLine bytes)) (rest is_digit (after_white InLine bytes)) refl refl

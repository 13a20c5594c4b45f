-- No item and no end has a fault, so a spelled list of items has none.
use Rattle.std.proofs.Common.{◌≡◌, ℕ, Bool, true, false, cond, ◌&&◌, ◌==◌, List, [], ◌∷◌, ◌++◌, Option, Some, None, is_some, nat_le, ne_eqb, refl, sym, ap, subst, ◌∙◌, arith}
use Rattle.std.proofs.lemmas.Bool.{and_parts}
use Rattle.std.proofs.lemmas.Option.{none-some, cond_some}
use Rattle.ca_plane.specs.Prelude.{front, rest, value}
use Rattle.ca_rle.specs.declared.{fault.RleFault.RleFault, item.Item.Item, item.Tag.Tag}
use Rattle.ca_rle.specs.declared.fault.RleFault.TheVariants.{Syntax}
use Rattle.ca_rle.specs.declared.item.Tag.TheVariants.{Cell}
use Rattle.ca_rle.specs.Prelude.{InLine, is_letter, is_prefix, prefixed_state, tag_of, IsCount, IsItem, Run, IsEnd, Items, after_white, letter_fault, tag_fault, count_fault, item_fault}
use Rattle.ca_rle.proofs.ItemAt.{tag_byte, two_letters, item_parts, end_after, regroup}
use Rattle.ca_rle.proofs.OneList.{item_or_end, one_item}

not_end : (b : ℕ) (bs : List ℕ) (t : Tag) → tag_of (b ∷ bs) ≡ Some t → (b == 33) ≡ false
not_end b bs t e = let h = (tag_byte b bs t e).0 in ne_eqb b 33 (λ s. omega arith)

no_letter_fault : (p b : ℕ) (bs : List ℕ) (t : Tag) → tag_of (p ∷ b ∷ []) ≡ Some t → letter_fault p (b ∷ bs) ≡ None
no_letter_fault p b bs t e =
    let tests = (cond_some _ (Cell (prefixed_state p b)) t e).0 in
    let low = and_parts (is_prefix p && is_letter b) (nat_le (prefixed_state p b) 255) tests in
    rw ((and_parts (is_prefix p) (is_letter b) low.0).1, low.1)

none_or : (v : Bool) (o : Option RleFault) → o ≡ None → cond v None o ≡ None
none_or true o e = refl
none_or false o e = e

no_tag_fault : (counted : Bool) (letters more : List ℕ) (t : Tag) → tag_of letters ≡ Some t → tag_fault counted (letters ++ more) ≡ None
no_tag_fault counted [] more t e = absurd cc
no_tag_fault counted (b ∷ []) more t e = rw (not_end b [] t e, e)
no_tag_fault counted (p ∷ b ∷ []) more t e =
    rw (not_end p (b ∷ []) t e) (none_or (is_some (tag_of (p ∷ []))) (cond (is_prefix p) (letter_fault p (b ∷ more)) (Some Syntax)) (rw (two_letters p b t e) (no_letter_fault p b more t e)))
no_tag_fault counted (p ∷ b ∷ c ∷ bs) more t e = absurd cc

no_count_fault : (digits letters more after : List ℕ) (n : ℕ) (t : Tag) → IsCount digits n → tag_of letters ≡ Some t → (digits ≡ [] → after ≡ letters ++ more) → after_white InLine after ≡ letters ++ more → count_fault digits after ≡ None
no_count_fault [] letters more after n t c e plain h = rw (plain refl) (no_tag_fault false letters more t e)
no_count_fault (d ∷ ds) letters more after n t c e plain h = rw (ne_eqb (value (d ∷ ds)) 0 (λ s. omega (arith, c.1, c.2)), h) (no_tag_fault true letters more t e)

-- an item has no fault, whatever stands after it
pub no_item_fault : (bytes more : List ℕ) (i : Item) → IsItem bytes i → item_fault (bytes ++ more) ≡ None
no_item_fault bytes more i (before, digits, between, letters, v, c, w, e, spelled) =
    let parts = item_parts before digits between letters more i.count i.tag v c w e in
    let whole : bytes ++ more ≡ before ++ (digits ++ (between ++ (letters ++ more))) = ap (λ (l : List ℕ). l ++ more) spelled ∙ regroup before digits between letters more in
    ap item_fault whole ∙ rw parts.digits_are (no_count_fault digits letters more _ i.count i.tag c e parts.uncounted parts.letters_are)

-- an end has no fault
pub no_end_fault : (bytes : List ℕ) → IsEnd bytes → item_fault bytes ≡ None
no_end_fault bytes end = let e = end_after bytes end in rw e.1

-- after items of a spelled list stands no bad item
pub no_bad_item : (bytes bad : List ℕ) (is js : List Item) (f : RleFault) → Items bytes is → Run bytes js bad → item_fault bad ≡ Some f → ⊥
no_bad_item bytes bad [] [] f (rest, run, end) done e = none-some f (sym (no_end_fault bytes (subst IsEnd (sym run) end)) ∙ ap item_fault done ∙ e)
no_bad_item bytes bad (i ∷ is) [] f (rest, (front, more, item, later, d), end) done e = none-some f (sym (no_item_fault front more i item) ∙ ap item_fault (sym d ∙ done) ∙ e)
no_bad_item bytes bad [] (j ∷ js) f (rest, run, end) (front, more, item, later, d) e = absurd (item_or_end bytes front more j (subst IsEnd (sym run) end) item d)
no_bad_item bytes bad (i ∷ is) (j ∷ js) f (rest, (a, m, p, later, d), end) (b, n, q, run, e) h =
    let same = one_item a b m n i j p q (sym d ∙ e) in
    no_bad_item m bad is js f (rest, later, end) (subst (λ (l : List ℕ). Run l js bad) (sym same.1) run) h

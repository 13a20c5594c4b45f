-- What stands at the front of bytes, by the digits there and what is found after them.
use Rattle.std.proofs.Common.{◌≡◌, ℕ, ◌-◌, ◌<◌, ◌^◌, min, eqb, ne_eqb, eqb-true, Bool, true, false, cond, ◌==◌, List, [], ◌∷◌, ◌++◌, length, Some, None, is_some, refl, sym, ap, ◌∙◌, arith}
use Rattle.std.proofs.lemmas.Option.{none-some}
use Rattle.std.proofs.lemmas.List.{nil_from_length}
use Rattle.ca_plane.specs.Prelude.{is_digit, front, rest, value}
use Rattle.ca_plane.proofs.Fronts.{front_then_rest}
use Rattle.ca_rle.specs.declared.{fault.RleFault.RleFault, item.Item.Item, item.Tag.Tag}
use Rattle.ca_rle.specs.declared.fault.RleFault.TheVariants.{Syntax}
use Rattle.ca_rle.specs.Prelude.{InLine, is_prefix, tag_of, IsEnd, after_white, letter_fault, tag_fault, count_fault, item_fault}
use Rattle.ca_rle.specs.inner.BodyFaults.{IsItemAtFront}
use Rattle.ca_rle.specs.inner.ItemParts.{IsSplit}
use Rattle.ca_rle.proofs.ItemAt.{item_at, count_of, tag_at_is, after_is_tag}
use Rattle.ca_rle.proofs.ReadItems.{run_found, end_found}

-- ---- without digits

-- a tag is an item that counts once
pub plain_item : (bytes digits after letters more : List ℕ) (t : Tag) → IsSplit bytes digits after → eqb (length digits) 0 ≡ true → tag_of letters ≡ Some t → after ≡ letters ++ more
    → IsItemAtFront bytes (record { count = 1; tag = t }) more
plain_item bytes digits after letters more t s none tag e =
    let no_digits : front is_digit (after_white InLine bytes) ≡ [] = sym s.digits_are ∙ nil_from_length digits (eqb-true (length digits) 0 none) in
    let letters_are : after_white InLine (rest is_digit (after_white InLine bytes)) ≡ letters ++ more = ap (after_white InLine) (sym s.later_is ∙ e) ∙ after_is_tag [] letters more t refl tag in
    let read : item_at bytes ≡ Some (record { count = 1; tag = t }, more) = rw (no_digits, letters_are, tag_at_is letters more t tag) refl in
    (record { count = 1; tag = t }, run_found bytes more more (record { count = 1; tag = t }) [] read (omega arith) refl, refl)

-- `!` is an end
pub plain_end : (bytes digits after ignored : List ℕ) → IsSplit bytes digits after → eqb (length digits) 0 ≡ true → after ≡ 33 ∷ ignored → IsEnd bytes
plain_end bytes digits after ignored s none e =
    let no_digits : front is_digit (after_white InLine bytes) ≡ [] = sym s.digits_are ∙ nil_from_length digits (eqb-true (length digits) 0 none) in
    end_found bytes ignored (sym (front_then_rest is_digit (after_white InLine bytes)) ∙ ap (λ l. l ++ rest is_digit (after_white InLine bytes)) no_digits ∙ sym s.later_is ∙ e)

-- the tag's fault is the item's
pub plain_fault : (bytes digits after : List ℕ) (f : RleFault) → IsSplit bytes digits after → eqb (length digits) 0 ≡ true → tag_fault false after ≡ Some f → item_fault bytes ≡ Some f
plain_fault bytes digits after f s none e =
    let no_digits : front is_digit (after_white InLine bytes) ≡ [] = sym s.digits_are ∙ nil_from_length digits (eqb-true (length digits) 0 none) in
    rw (no_digits, ← s.later_is) e

-- ---- after digits

-- the count that digits write
counts : (digits : List ℕ) → eqb (length digits) 0 ≡ false → count_of digits ≡ value digits
counts [] some = absurd cc
counts (d ∷ ds) some = refl

-- a tag is an item that counts so often
pub counted_item : (bytes digits after letters more : List ℕ) (n : ℕ) (t : Tag) → IsSplit bytes digits after → eqb (length digits) 0 ≡ false
    → (0 < value digits) × (n ≡ min (value digits) (2 ^ 64 - 1)) → tag_of letters ≡ Some t → after_white InLine after ≡ letters ++ more
    → IsItemAtFront bytes (record { count = n; tag = t }) more
counted_item bytes digits after letters more n t s some number tag e =
    let letters_are : after_white InLine (rest is_digit (after_white InLine bytes)) ≡ letters ++ more = ap (after_white InLine) (sym s.later_is) ∙ e in
    let count : count_of (front is_digit (after_white InLine bytes)) ≡ value digits = ap count_of (sym s.digits_are) ∙ counts digits some in
    let read : item_at bytes ≡ Some (record { count = value digits; tag = t }, more) = rw (count, letters_are, tag_at_is letters more t tag) refl in
    (record { count = value digits; tag = t }, run_found bytes more more (record { count = value digits; tag = t }) [] read number.0 refl, ap (λ (m : ℕ). let made : Item = record { count = m; tag = t } in made) number.1)

-- the fault of digits that aren't none
digits_fault : (digits after : List ℕ) → eqb (length digits) 0 ≡ false → count_fault digits after ≡ (cond (value digits == 0) (Some Syntax) (tag_fault true (after_white InLine after)))
digits_fault [] after some = absurd cc
digits_fault (d ∷ ds) after some = refl

fault_is : (bytes digits after : List ℕ) → IsSplit bytes digits after → item_fault bytes ≡ count_fault digits after
fault_is bytes digits after s = rw (s.digits_are, s.later_is) refl

-- a count of 0 is a fault
pub zero_fault : (bytes digits after : List ℕ) → IsSplit bytes digits after → eqb (length digits) 0 ≡ false → value digits ≡ 0 → item_fault bytes ≡ Some Syntax
zero_fault bytes digits after s some none = fault_is bytes digits after s ∙ digits_fault digits after some ∙ rw none refl

after_count : (bytes digits after : List ℕ) → IsSplit bytes digits after → eqb (length digits) 0 ≡ false → 0 < value digits → item_fault bytes ≡ tag_fault true (after_white InLine after)
after_count bytes digits after s some number =
    let e : (value digits == 0) ≡ false = ne_eqb (value digits) 0 (λ z. omega (arith, number, z)) in
    fault_is bytes digits after s ∙ digits_fault digits after some ∙ rw e refl

-- a fault of a tag without a count is its fault after one too
counted_fault : (bytes : List ℕ) (f : RleFault) → tag_fault false bytes ≡ Some f → tag_fault true bytes ≡ Some f
counted_fault [] f e = e
counted_fault (b ∷ bs) f e = go (b == 33) e
  where
    go : (mark : Bool) → cond mark None (cond (is_some (tag_of (b ∷ []))) None (cond (is_prefix b) (letter_fault b bs) (Some Syntax))) ≡ Some f
        → cond mark (Some Syntax) (cond (is_some (tag_of (b ∷ []))) None (cond (is_prefix b) (letter_fault b bs) (Some Syntax))) ≡ Some f
    go true h = absurd (none-some f h)
    go false h = h

-- the tag's fault is the item's
pub counted_tag_fault : (bytes digits after seen : List ℕ) (f : RleFault) → IsSplit bytes digits after → eqb (length digits) 0 ≡ false → 0 < value digits
    → seen ≡ after_white InLine after → tag_fault false seen ≡ Some f → item_fault bytes ≡ Some f
counted_tag_fault bytes digits after seen f s some number e h = after_count bytes digits after s some number ∙ ap (tag_fault true) (sym e) ∙ counted_fault seen f h

-- and `!` takes no count
pub counted_end : (bytes digits after seen ignored : List ℕ) → IsSplit bytes digits after → eqb (length digits) 0 ≡ false → 0 < value digits
    → seen ≡ after_white InLine after → seen ≡ 33 ∷ ignored → item_fault bytes ≡ Some Syntax
counted_end bytes digits after seen ignored s some number e h = after_count bytes digits after s some number ∙ ap (tag_fault true) (sym e ∙ h)

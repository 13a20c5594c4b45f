-- The item that is read at the front of bytes stands there, and items that are read one after another do.
use Rattle.std.proofs.Common.{◌≡◌, ℕ, zero, suc, ◌<◌, ◌⊎◌, inl, inr, Bool, true, false, cond, ◌==◌, ◌||◌, IsTrue, List, [], ◌∷◌, ◌++◌, Option, Some, None, nat_lt, ltb-true, eqb-true, refl, sym, ap, ap₂, subst, ◌∙◌, append_assoc}
use Rattle.std.proofs.lemmas.Option.{some_pair_parts, same_Some, none-some}
use Rattle.ca_plane.specs.Prelude.{Every, is_blank, is_line_end, is_digit, front, rest}
use Rattle.ca_rle.specs.declared.item.{Item.Item, Tag.Tag}
use Rattle.ca_rle.specs.Prelude.{Place, AtStart, InLine, InComment, is_white_from, tag_of, is_prefix, IsCount, IsItem, Run, IsEnd, Items, after_white}
use Rattle.ca_plane.proofs.Fronts.{front_then_rest, every_front}
use Rattle.ca_rle.proofs.ItemAt.{with_rest, tag_at, count_of, counted, item_at}

-- ---- white space

-- the bytes are white space from a place onwards, and then these
abbrev BeginsWhite : Place → List ℕ → List ℕ → Type 0
BeginsWhite place bytes after = (before : List ℕ) × IsTrue (is_white_from place before) × (bytes ≡ before ++ after)

-- one byte of white space more, which leads from one place to another
byte_more : (from to : Place) (b : ℕ) (bytes after : List ℕ) → ((bs : List ℕ) → is_white_from from (b ∷ bs) ≡ is_white_from to bs) → BeginsWhite to bytes after → BeginsWhite from (b ∷ bytes) after
byte_more from to b bytes after step (before, w, e) = (b ∷ before, step before ∙ w, ap (λ (l : List ℕ). b ∷ l) e)

chosen : {A : Type 0} (b : Bool) (x y z : A) → cond b x y ≡ z → ((b ≡ true) × (x ≡ z)) ⊎ ((b ≡ false) × (y ≡ z))
chosen true x y z e = inl (refl, e)
chosen false x y z e = inr (refl, e)

-- what is not empty after white space follows white space
pub after_follows : (place : Place) (bytes : List ℕ) (c : ℕ) (more : List ℕ) → after_white place bytes ≡ c ∷ more → BeginsWhite place bytes (c ∷ more)
after_follows AtStart [] c more e = absurd cc
after_follows InLine [] c more e = absurd cc
after_follows InComment [] c more e = absurd cc
after_follows AtStart (b ∷ bs) c more e =
    elim (chosen (is_line_end b || is_blank b) _ _ _ e) [
      | inl w ↦ byte_more AtStart AtStart b bs (c ∷ more) (λ l. rw w.0) (after_follows AtStart bs c more w.1)
      | inr n ↦ elim (chosen (b == 35) _ _ _ n.1) [
        | inl w ↦ byte_more AtStart InComment b bs (c ∷ more) (λ l. rw (n.0, w.0)) (after_follows InComment bs c more w.1)
        | inr here ↦ ([], refl, here.1)
      ]
    ]
after_follows InLine (b ∷ bs) c more e =
    elim (chosen (is_line_end b) _ _ _ e) [
      | inl w ↦ byte_more InLine AtStart b bs (c ∷ more) (λ l. rw w.0) (after_follows AtStart bs c more w.1)
      | inr n ↦ elim (chosen (is_blank b) _ _ _ n.1) [
        | inl w ↦ byte_more InLine InLine b bs (c ∷ more) (λ l. rw (n.0, w.0)) (after_follows InLine bs c more w.1)
        | inr here ↦ ([], refl, here.1)
      ]
    ]
after_follows InComment (b ∷ bs) c more e =
    elim (chosen (is_line_end b) _ _ _ e) [
      | inl w ↦ byte_more InComment AtStart b bs (c ∷ more) (λ l. rw w.0) (after_follows AtStart bs c more w.1)
      | inr w ↦ byte_more InComment InComment b bs (c ∷ more) (λ l. rw w.0) (after_follows InComment bs c more w.1)
    ]

-- ---- tags and counts

with_rest_some : (o : Option Tag) (m more : List ℕ) (t : Tag) → with_rest o m ≡ Some (t, more) → (o ≡ Some t) × (m ≡ more)
with_rest_some None m more t e = absurd cc
with_rest_some (Some u) m more t e = let p = some_pair_parts u t m more e in (ap Some p.0, p.1)

-- the tag that is read stands at the front
pub tag_found : (bytes : List ℕ) (t : Tag) (more : List ℕ) → tag_at bytes ≡ Some (t, more) → (b : ℕ) × (bs : List ℕ) × (tag_of (b ∷ bs) ≡ Some t) × (bytes ≡ b ∷ (bs ++ more))
tag_found [] t more e = absurd cc
tag_found (b ∷ []) t more e = let p = with_rest_some (tag_of (b ∷ [])) [] more t e in (b, [], p.0, ap (λ (l : List ℕ). b ∷ l) p.1)
tag_found (b ∷ c ∷ cs) t more e =
    elim (chosen (is_prefix b) _ _ _ e) [
      | inl h ↦ let p = with_rest_some (tag_of (b ∷ c ∷ [])) cs more t h.1 in (b, c ∷ [], p.0, ap (λ (l : List ℕ). b ∷ c ∷ l) p.1)
      | inr h ↦ let p = with_rest_some (tag_of (b ∷ [])) (c ∷ cs) more t h.1 in (b, [], p.0, ap (λ (l : List ℕ). b ∷ l) p.1)
    ]

count_found : (digits : List ℕ) (n : ℕ) → Every is_digit digits → count_of digits ≡ n → 0 < n → IsCount digits n
count_found [] n d e h = sym e
count_found (d ∷ ds) n all e h = (all, sym e, h)

counted_some : (n : ℕ) (o : Option (Tag × List ℕ)) (i : Item) (more : List ℕ) → counted n o ≡ Some (i, more) → (o ≡ Some (i.tag, more)) × (n ≡ i.count)
counted_some n None i more e = absurd cc
counted_some n (Some (t, m)) i more e =
    let p = some_pair_parts (record { count = n; tag = t }) i m more e in
    (ap Some (ap₂ (λ (a : Tag) (b : List ℕ). (a, b)) (ap (λ (x : Item). x.tag) p.0) p.1), ap (λ (x : Item). x.count) p.0)

-- ---- items

-- an item stands at the front of the bytes, and these after it
abbrev pub StandsBefore : Item → List ℕ → List ℕ → Type 0
StandsBefore i bytes more = (front : List ℕ) × IsItem front i × (bytes ≡ front ++ more)

regroup : (before digits between letters more : List ℕ) → before ++ (digits ++ (between ++ (letters ++ more))) ≡ (before ++ (digits ++ (between ++ letters))) ++ more
regroup before digits between letters more = simp append_assoc

found_after : (bytes seen : List ℕ) (i : Item) (more : List ℕ) → after_white InLine bytes ≡ seen → counted (count_of (front is_digit seen)) (tag_at (after_white InLine (rest is_digit seen))) ≡ Some (i, more) → 0 < i.count → StandsBefore i bytes more
found_after bytes [] i more e h pos = absurd cc
found_after bytes (c ∷ cs) i more e h pos =
    let outer = after_follows InLine bytes c cs e in
    let read = counted_some _ _ i more h in
    let digits = front is_digit (c ∷ cs) in
    let letters = tag_found _ i.tag more read.0 in
    let inner = after_follows InLine (rest is_digit (c ∷ cs)) letters.0 (letters.1 ++ more) letters.3 in
    let whole : bytes ≡ outer.0 ++ (digits ++ (inner.0 ++ (letters.0 ∷ letters.1 ++ more))) = outer.2 ∙ ap (λ (l : List ℕ). outer.0 ++ l) (sym (front_then_rest is_digit (c ∷ cs)) ∙ ap (λ (l : List ℕ). digits ++ l) inner.2) in (
      outer.0 ++ (digits ++ (inner.0 ++ letters.0 ∷ letters.1)),
      (outer.0, digits, inner.0, letters.0 ∷ letters.1, outer.1, count_found digits i.count (every_front is_digit (c ∷ cs)) read.1 pos, inner.1, letters.2, refl),
      whole ∙ regroup outer.0 digits inner.0 (letters.0 ∷ letters.1) more,
    )

-- the item that is read at the front stands there, if its count isn't 0
pub item_found : (bytes : List ℕ) (i : Item) (more : List ℕ) → item_at bytes ≡ Some (i, more) → 0 < i.count → StandsBefore i bytes more
item_found bytes i more = found_after bytes (after_white InLine bytes) i more refl

-- `!` after white space is an end
pub end_found : (bytes ignored : List ℕ) → after_white InLine bytes ≡ 33 ∷ ignored → IsEnd bytes
end_found bytes ignored e = let b = after_follows InLine bytes 33 ignored e in (b.0, ignored, b.1, b.2)

-- a run is an item and then a run
pub run_found : (bytes more rest : List ℕ) (i : Item) (is : List Item) → item_at bytes ≡ Some (i, more) → 0 < i.count → Run more is rest → Run bytes (i ∷ is) rest
run_found bytes more rest i is e pos r = let f = item_found bytes i more e pos in (f.0, more, f.1, r, f.2)

-- ---- the whole list of items

abbrev ends_here : List ℕ → Bool
ends_here [] = false
ends_here (b ∷ bs) = b == 33

abbrev prepended : Item → Option (List Item) → Option (List Item)
prepended i None = None
prepended i (Some is) = Some (i ∷ is)

abbrev one_then : (List ℕ → Option (List Item)) → Option (Item × List ℕ) → Option (List Item)
one_then others None = None
one_then others (Some (i, more)) = cond (nat_lt 0 i.count) (prepended i (others more)) None

-- the items that bytes spell, if they are fewer than n
abbrev pub items_at : ℕ → List ℕ → Option (List Item)
items_at zero bytes = None
items_at (suc n) bytes = cond (ends_here (after_white InLine bytes)) (Some []) (one_then (items_at n) (item_at bytes))

end_here : (bytes seen : List ℕ) → after_white InLine bytes ≡ seen → ends_here seen ≡ true → IsEnd bytes
end_here bytes [] e h = absurd cc
end_here bytes (b ∷ bs) e h = end_found bytes bs (e ∙ ap (λ (c : ℕ). c ∷ bs) (eqb-true b 33 h))

prepended_some : (i : Item) (o : Option (List Item)) (is : List Item) → prepended i o ≡ Some is → (js : List Item) × (o ≡ Some js) × (is ≡ i ∷ js)
prepended_some i None is e = absurd cc
prepended_some i (Some js) is e = (js, refl, sym (same_Some (i ∷ js) is e))

one_then_found : (bytes : List ℕ) (others : List ℕ → Option (List Item)) (o : Option (Item × List ℕ)) (is : List Item) → item_at bytes ≡ o → ((more : List ℕ) (js : List Item) → others more ≡ Some js → Items more js) → one_then others o ≡ Some is → Items bytes is
one_then_found bytes others None is e found h = absurd cc
one_then_found bytes others (Some (i, more)) is e found h =
    elim (chosen (nat_lt 0 i.count) _ _ _ h) [
      | inl p ↦ let j = prepended_some i (others more) is p.1 in
          let later = found more j.0 j.1 in
          subst (λ (l : List Item). Items bytes l) (sym j.2) (later.0, run_found bytes more later.0 i j.0 e (ltb-true 0 i.count p.0) later.1, later.2)
      | inr p ↦ absurd (none-some is p.1)
    ]

-- what is read so is spelled
pub items_found : (n : ℕ) (bytes : List ℕ) (is : List Item) → items_at n bytes ≡ Some is → Items bytes is
items_found zero bytes is e = absurd cc
items_found (suc n) bytes is e =
    elim (chosen (ends_here (after_white InLine bytes)) _ _ _ e) [
      | inl h ↦ subst (λ (l : List Item). Items bytes l) (same_Some [] is h.1) (bytes, refl, end_here bytes (after_white InLine bytes) refl h.0)
      | inr h ↦ one_then_found bytes (items_at n) (item_at bytes) is refl (items_found n) h.1
    ]

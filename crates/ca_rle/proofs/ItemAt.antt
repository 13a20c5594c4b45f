-- The item at the front of bytes as a function, and that it is each item that stands there.
use Rattle.std.proofs.Common.{◌≡◌, ℕ, ◌<◌, ◌⊎◌, true, false, cond, not, IsTrue, List, [], ◌∷◌, ◌++◌, Option, Some, None, refl, sym, ap, ◌∙◌, append_assoc, arith}
use Rattle.std.specs.List.{list_all}
use Rattle.std.proofs.lemmas.Bool.{and_parts}
use Rattle.std.proofs.lemmas.Bool.Decides.{nat_tests}
use Rattle.ca_plane.specs.Prelude.{is_digit, is_end_or, front, rest, value, AreDigits}
use Rattle.ca_rle.specs.declared.item.{Item.Item, Tag.Tag}
use Rattle.ca_rle.specs.Prelude.{InLine, IsWhite, is_prefix, tag_of, IsCount, IsItem, IsEnd, after_white}
use Rattle.ca_plane.proofs.Fronts.{front_append, rest_append}
use Rattle.ca_rle.proofs.White.{Stops, Stops_above, after_white_is, IsWhite-append, no_digit_after}

-- ---- tags

-- the first byte of a tag ends white space, and is no digit
pub tag_byte : (b : ℕ) (bs : List ℕ) (t : Tag) → tag_of (b ∷ bs) ≡ Some t → (35 < b) × ((b < 48) ⊎ (57 < b))
tag_byte b [] t e = grind (arith, nat_tests)
tag_byte p (b ∷ []) t e = grind (arith, nat_tests)
tag_byte p (b ∷ c ∷ bs) t e = absurd cc

abbrev pub with_rest : Option Tag → List ℕ → Option (Tag × List ℕ)
with_rest None more = None
with_rest (Some t) more = Some (t, more)

-- the tag at the front, and the bytes after it
abbrev pub tag_at : List ℕ → Option (Tag × List ℕ)
tag_at [] = None
tag_at (b ∷ []) = with_rest (tag_of (b ∷ [])) []
tag_at (b ∷ c ∷ bs) = cond (is_prefix b) (with_rest (tag_of (b ∷ c ∷ [])) bs) (with_rest (tag_of (b ∷ [])) (c ∷ bs))

one_letter : (b : ℕ) (t : Tag) → tag_of (b ∷ []) ≡ Some t → is_prefix b ≡ false
one_letter b t e = grind (arith, nat_tests)

pub two_letters : (p b : ℕ) (t : Tag) → tag_of (p ∷ b ∷ []) ≡ Some t → is_prefix p ≡ true
two_letters p b t e = grind (arith, nat_tests)

-- no tag's letters begin another's
pub tag_at_is : (letters more : List ℕ) (t : Tag) → tag_of letters ≡ Some t → tag_at (letters ++ more) ≡ Some (t, more)
tag_at_is [] more t e = absurd cc
tag_at_is (b ∷ []) [] t e = rw e
tag_at_is (b ∷ []) (m ∷ more) t e = rw (one_letter b t e, e)
tag_at_is (p ∷ b ∷ []) more t e = rw (e, two_letters p b t e)
tag_at_is (p ∷ b ∷ c ∷ bs) more t e = absurd cc

-- ---- items

abbrev pub count_of : List ℕ → ℕ
count_of [] = 1
count_of (d ∷ ds) = value (d ∷ ds)

abbrev pub counted : ℕ → Option (Tag × List ℕ) → Option (Item × List ℕ)
counted n None = None
counted n (Some t) = Some (record { count = n; tag = t.0 }, t.1)

-- the item at the front, and the bytes after it; its count may be 0
abbrev pub item_at : List ℕ → Option (Item × List ℕ)
item_at bytes = counted (count_of (front is_digit (after_white InLine bytes))) (tag_at (after_white InLine (rest is_digit (after_white InLine bytes))))

-- the bytes of an item, taken apart, and what stands after them
pub record Parts (bytes : List ℕ) (digits letters more : List ℕ) : Type 0 where
  pub digits_are : front is_digit (after_white InLine bytes) ≡ digits
  pub letters_are : after_white InLine (rest is_digit (after_white InLine bytes)) ≡ letters ++ more
  pub uncounted : digits ≡ [] → rest is_digit (after_white InLine bytes) ≡ letters ++ more

-- after white space stands the tag
pub after_is_tag : (white letters more : List ℕ) (t : Tag) → IsWhite white → tag_of letters ≡ Some t → after_white InLine (white ++ (letters ++ more)) ≡ letters ++ more
after_is_tag white [] more t w e = absurd cc
after_is_tag white (b ∷ bs) more t w e = after_white_is InLine white b (bs ++ more) (Stops_above b (tag_byte b bs t e).0) w

-- a tag begins with no digit
no_digit_tag : (letters more : List ℕ) (t : Tag) → tag_of letters ≡ Some t → IsTrue (is_end_or (λ b. not (is_digit b)) (letters ++ more))
no_digit_tag [] more t e = absurd cc
no_digit_tag (b ∷ bs) more t e = let h = (tag_byte b bs t e).1 in grind (arith, nat_tests)

digit_stops : (d : ℕ) (ds : List ℕ) → AreDigits (d ∷ ds) → Stops d
digit_stops d ds h = Stops_above d (let p = (and_parts (is_digit d) (list_all is_digit ds) h).0 in grind (arith, nat_tests))

pub item_parts : (before digits between letters more : List ℕ) (n : ℕ) (t : Tag) → IsWhite before → IsCount digits n → IsWhite between → tag_of letters ≡ Some t
    → Parts (before ++ (digits ++ (between ++ (letters ++ more)))) digits letters more
item_parts before [] between letters more n t v c w e =
    let seen : after_white InLine (before ++ (between ++ (letters ++ more))) ≡ letters ++ more = ap (after_white InLine) (sym (append_assoc before between (letters ++ more))) ∙ after_is_tag (before ++ between) letters more t (IsWhite-append before between v w) e in
    let ends = no_digit_tag letters more t e in
    record {
      digits_are = rw seen (front_append is_digit [] (letters ++ more) refl ends);
      letters_are = rw (seen, rest_append is_digit [] (letters ++ more) refl ends) (after_is_tag [] letters more t refl e);
      uncounted = λ _. ap (rest is_digit) seen ∙ rest_append is_digit [] (letters ++ more) refl ends;
    }
item_parts before (d ∷ ds) between letters more n t v c w e =
    let seen : after_white InLine (before ++ (d ∷ ds ++ (between ++ (letters ++ more)))) ≡ d ∷ ds ++ (between ++ (letters ++ more)) = after_white_is InLine before d (ds ++ (between ++ (letters ++ more))) (digit_stops d ds c.0) v in
    let ends = no_digit_after between (letters ++ more) w (no_digit_tag letters more t e) in
    record {
      digits_are = rw seen (front_append is_digit (d ∷ ds) (between ++ (letters ++ more)) c.0 ends);
      letters_are = rw (seen, rest_append is_digit (d ∷ ds) (between ++ (letters ++ more)) c.0 ends) (after_is_tag between letters more t w e);
      uncounted = λ h. absurd cc;
    }

count_is : (digits : List ℕ) (n : ℕ) → IsCount digits n → count_of digits ≡ n
count_is [] n c = sym c
count_is (d ∷ ds) n c = sym c.1

pub regroup : (before digits between letters more : List ℕ) → (before ++ (digits ++ (between ++ letters))) ++ more ≡ before ++ (digits ++ (between ++ (letters ++ more)))
regroup before digits between letters more = simp append_assoc

-- an item is read as itself, whatever stands after it
pub item_at_is : (bytes more : List ℕ) (i : Item) → IsItem bytes i → item_at (bytes ++ more) ≡ Some (i, more)
item_at_is bytes more i (before, digits, between, letters, v, c, w, e, spelled) =
    let parts = item_parts before digits between letters more i.count i.tag v c w e in
    let whole : bytes ++ more ≡ before ++ (digits ++ (between ++ (letters ++ more))) = ap (λ (l : List ℕ). l ++ more) spelled ∙ regroup before digits between letters more in
    ap item_at whole ∙ rw (parts.digits_are, parts.letters_are, count_is digits i.count c, tag_at_is letters more i.tag e) refl

no_tag_at_end : (ignored : List ℕ) → tag_at (33 ∷ ignored) ≡ None
no_tag_at_end [] = refl
no_tag_at_end (b ∷ bs) = refl

-- at an end `!` stands after white space
pub end_after : (bytes : List ℕ) → IsEnd bytes → (ignored : List ℕ) × (after_white InLine bytes ≡ 33 ∷ ignored)
end_after bytes (before, ignored, w, spelled) = (ignored, ap (after_white InLine) spelled ∙ after_white_is InLine before 33 ignored (record { no_line_end = refl; no_blank = refl; no_hash = refl }) w)

-- at an end no item is read
pub no_item_at_end : (bytes : List ℕ) → IsEnd bytes → item_at bytes ≡ None
no_item_at_end bytes end = let e = end_after bytes end in rw (e.1, no_tag_at_end e.0)

-- Every text is a file, or has a first fault in its spelling.
use Rattle.std.proofs.Common.{◌≡◌, ℕ, zero, suc, ◌<◌, ◌⊎◌, inl, inr, Bool, true, false, not, List, [], ◌∷◌, ◌++◌, length, Option, Some, None, refl, sym, ap, ◌∙◌, append-nil, append_assoc, true≢false, arith, nat_le, ◌==◌, is_some}
use Rattle.std.specs.List.{flat_map, AllZip}
use Rattle.std.proofs.lemmas.Bool.{cases_Bool, cond_both}
use Rattle.std.proofs.lemmas.Grind.{flat_map-append}
use Rattle.std.proofs.lemmas.List.{length-append}
use Rattle.ca_plane.specs.Prelude.{is_digit, is_line_end, front, rest, value}
use Rattle.ca_plane.proofs.Lines.{line_ends_by_lf}
use Rattle.ca_rle.specs.declared.{fault.RleFault.RleFault, item.Item.Item, item.Tag.Tag}
use Rattle.ca_rle.specs.declared.fault.RleFault.TheVariants.{Syntax, Header, XlifeRule, NoEnd, BadState, GenTooLarge}
use Rattle.ca_rle.specs.Prelude.{InLine, is_letter, is_prefix, prefixed_state, tag_of, IsItem, Items, IsHeader, is_front_line, extended_words, CxrleWord, WordSays, RleFile, line_with_lf, IsPreamble}
use Rattle.ca_rle.specs.Prelude.{FollowsPreamble, IsHeaded, IsRleFile, after_white, letter_fault, tag_fault, count_fault, item_fault, HasBadWord, HasBadItem, IsFirstRleFault}
use Rattle.ca_rle.specs.inner.BodyFaults.{HasBadUnit}
use Rattle.ca_plane.proofs.Fronts.{front_then_rest}
use Rattle.ca_rle.proofs.OneHeader.{no_comment}
use Rattle.ca_rle.proofs.FileParts.{file_of, headed_is_file}
use Rattle.ca_rle.proofs.FrontLines.{next_line_follows}
use Rattle.ca_rle.proofs.GoodItem.{IsItemOrEnd, good_item_or_end}
use Rattle.ca_rle.proofs.Preambles.{preamble_more}
use Rattle.ca_rle.proofs.WordOrFault.{all_say_or_bad}
use Rattle.ca_rle.proofs.LineKinds.{header_or_not, xlife_or_none}

-- ---- items

letters_length : (letters : List ℕ) (t : Tag) → tag_of letters ≡ Some t → 0 < length letters
letters_length [] t e = absurd cc
letters_length (b ∷ bs) t e = omega arith

-- what stands after an item is shorter
pub shorter_after : (bytes front more : List ℕ) (i : Item) → IsItem front i → bytes ≡ front ++ more → length more < length bytes
shorter_after bytes front more i (before, digits, between, letters, v, c, w, e, spelled) d =
    let low = letters_length letters i.tag e in
    let whole = ap (λ (l : List ℕ). length l) d ∙ length-append front more in
    let item = ap (λ (l : List ℕ). length l) spelled ∙ length-append before (digits ++ (between ++ letters)) in
    let after = length-append digits (between ++ letters) in
    let last = length-append between letters in
    omega arith

-- the items that the bytes spell, or the fault of the first bad one
abbrev pub ItemsOrBad : List ℕ → Type 0
ItemsOrBad bytes = ((is : List Item) × Items bytes is) ⊎ ((f : RleFault) × HasBadUnit bytes f)

fault_or_unit : (bytes : List ℕ) (o : Option RleFault) → item_fault bytes ≡ o → ((f : RleFault) × (item_fault bytes ≡ Some f)) ⊎ IsItemOrEnd bytes
fault_or_unit bytes None e = inr (good_item_or_end bytes e)
fault_or_unit bytes (Some f) e = inl (f, e)

with_first_item : (bytes front more : List ℕ) (i : Item) → IsItem front i → bytes ≡ front ++ more → ItemsOrBad more → ItemsOrBad bytes
with_first_item bytes front more i item d (inl (is, (rest, run, end))) = inl (i ∷ is, (rest, (front, more, item, run, d), end))
with_first_item bytes front more i item d (inr (f, (bad, (is, run, e)))) = inr (f, (bad, (i ∷ is, (front, more, item, run, d), e)))

items_within : (n : ℕ) (bytes : List ℕ) → length bytes < n → ItemsOrBad bytes
items_within zero bytes h = absurd (omega arith)
items_within (suc n) bytes h =
    elim (fault_or_unit bytes (item_fault bytes) refl) [
      | inl b ↦ inr (b.0, (bytes, ([], refl, b.1)))
      | inr u ↦ elim u [
        | inl s ↦ let item = s.2 in with_first_item bytes item.0 item.1 s.0 item.2 item.4 (items_within n item.1 (let less = shorter_after bytes item.0 item.1 s.0 item.2 item.4 in omega arith))
        | inr end ↦ inl ([], (bytes, refl, end))
      ]
    ]

-- bytes spell items, or have a first bad one
pub items_or_bad : (bytes : List ℕ) → ItemsOrBad bytes
items_or_bad bytes = items_within (suc (length bytes)) bytes (omega arith)

-- ---- faults by what they are of

-- the faults that an item can have
abbrev pub is_of_item : RleFault → Bool
is_of_item Syntax = true
is_of_item NoEnd = true
is_of_item BadState = true
is_of_item fault = false

abbrev none_or_of_item : Option RleFault → Bool
none_or_of_item None = true
none_or_of_item (Some f) = is_of_item f

letter_fault_kind : (p : ℕ) (bytes : List ℕ) → none_or_of_item (letter_fault p bytes) ≡ true
letter_fault_kind p [] = refl
letter_fault_kind p (b ∷ bs) = cond_both (is_letter b) _ _ (λ (o : Option RleFault). none_or_of_item o ≡ true) (λ l. cond_both (nat_le (prefixed_state p b) 255) _ _ (λ (o : Option RleFault). none_or_of_item o ≡ true) (λ s. refl) (λ s. refl)) (λ l. refl)

tag_fault_kind : (counted : Bool) (bytes : List ℕ) → none_or_of_item (tag_fault counted bytes) ≡ true
tag_fault_kind counted [] = refl
tag_fault_kind counted (b ∷ bs) =
    cond_both (b == 33) _ _ (λ (o : Option RleFault). none_or_of_item o ≡ true)
    (λ e. cond_both counted _ _ (λ (o : Option RleFault). none_or_of_item o ≡ true) (λ c. refl) (λ c. refl))
    (λ e. cond_both (is_some (tag_of (b ∷ []))) _ _ (λ (o : Option RleFault). none_or_of_item o ≡ true)
    (λ t. refl)
    (λ t. cond_both (is_prefix b) _ _ (λ (o : Option RleFault). none_or_of_item o ≡ true) (λ p. letter_fault_kind b bs) (λ p. refl)))

count_fault_kind : (digits bytes : List ℕ) → none_or_of_item (count_fault digits bytes) ≡ true
count_fault_kind [] bytes = tag_fault_kind false bytes
count_fault_kind (d ∷ ds) bytes = cond_both (value (d ∷ ds) == 0) _ _ (λ (o : Option RleFault). none_or_of_item o ≡ true) (λ z. refl) (λ z. tag_fault_kind true (after_white InLine bytes))

-- the fault of an item is one of these
pub item_fault_kind : (bytes : List ℕ) (f : RleFault) → item_fault bytes ≡ Some f → is_of_item f ≡ true
item_fault_kind bytes f e = ap none_or_of_item (sym e) ∙ count_fault_kind (front is_digit (after_white InLine bytes)) (rest is_digit (after_white InLine bytes))

bad_item_first : (bytes : List ℕ) (f : RleFault) → is_of_item f ≡ true → HasBadItem bytes f → IsFirstRleFault bytes f
bad_item_first bytes Syntax h b = inr b
bad_item_first bytes NoEnd h b = b
bad_item_first bytes BadState h b = b
bad_item_first bytes f h b = absurd (true≢false (sym h))

-- the first bad item is a text's first fault
pub first_from_item : (bytes : List ℕ) (f : RleFault) → HasBadItem bytes f → IsFirstRleFault bytes f
first_from_item bytes f b = bad_item_first bytes f (item_fault_kind b.bad f b.fault_is) b

-- the first bad word is a text's first fault
pub first_from_word : (bytes : List ℕ) (f : RleFault) → HasBadWord bytes f → IsFirstRleFault bytes f
first_from_word bytes Syntax b = inl b
first_from_word bytes GenTooLarge b = b
first_from_word bytes f b = absurd b.among.bad

-- ---- a text

-- a text is a file, or has a first fault
abbrev pub FileOrFault : List ℕ → Type 0
FileOrFault bytes = ((file : RleFile) × IsRleFile bytes file) ⊎ ((f : RleFault) × IsFirstRleFault bytes f)

headed_or_fault : (bytes : List ℕ) (said : List CxrleWord) (rule : Option (List ℕ)) (body : List ℕ) → IsHeaded bytes said rule body → FileOrFault bytes
headed_or_fault bytes said rule body h =
    elim (items_or_bad body) [
      | inl i ↦ inl (file_of said rule i.0, headed_is_file bytes said rule body i.0 h i.1)
      | inr b ↦ inr (b.0, first_from_item bytes b.0 (record { said = said; rule = rule; body = body; items = b.1.1.0; bad = b.1.0; headed = h; good = b.1.1.1; fault_is = b.1.1.2 }))
    ]

header_or_fault : (bytes : List ℕ) (lines : List (List ℕ)) (said : List CxrleWord) (line more : List ℕ) (rule : Option (List ℕ)) → FollowsPreamble bytes lines said line more → IsHeader line rule → FileOrFault bytes
header_or_fault bytes lines said line more (Some text) s h = headed_or_fault bytes said (Some text) more (record { lines = lines; header = line; follows = s; header_is = h; named = inl refl })
header_or_fault bytes lines said line more None s h =
    elim (xlife_or_none lines) [
      | inl x ↦ inr (XlifeRule, record { lines = lines; said = said; header = line; body = more; xlife = x.xlife; earlier = x.earlier; others = x.others; follows = s; is_xlife = x.is_xlife; among = x.among; header_is = h })
      | inr none ↦ headed_or_fault bytes said None more (record { lines = lines; header = line; follows = s; header_is = h; named = inr none })
    ]

-- a line that is no comment is the header, or the header is missing
not_comment : (bytes : List ℕ) (lines : List (List ℕ)) (said : List CxrleWord) (line more : List ℕ) → FollowsPreamble bytes lines said line more → is_front_line line ≡ false → FileOrFault bytes
not_comment bytes lines said line more s c =
    elim (header_or_not line s.line_is) [
      | inl h ↦ header_or_fault bytes lines said line more h.0 s h.1
      | inr n ↦ inr (Header, record { lines = lines; said = said; line = line; more = more; follows = s; no_header = n; no_comment_or_last = inl c })
    ]

-- ---- one good line more

lines_then : (lines : List (List ℕ)) (line more : List ℕ) → flat_map line_with_lf lines ++ (line ++ 10 ∷ more) ≡ flat_map line_with_lf (lines ++ line ∷ []) ++ more
lines_then lines line more = sym (ap (λ (l : List ℕ). l ++ more) (flat_map-append line_with_lf lines (line ∷ []) ∙ ap (λ (l : List ℕ). flat_map line_with_lf lines ++ l) (append-nil (line_with_lf line))) ∙ append_assoc (flat_map line_with_lf lines) (line_with_lf line) more ∙ ap (λ (l : List ℕ). flat_map line_with_lf lines ++ l) (append_assoc line (10 ∷ []) more))

-- ---- line by line

-- the bytes of a line
abbrev in_line : ℕ → Bool
in_line b = not (is_line_end b)

-- the first line of what stands after good lines
first_split : (bytes : List ℕ) (lines : List (List ℕ)) (said : List CxrleWord) (left more : List ℕ) → IsPreamble lines said → bytes ≡ flat_map line_with_lf lines ++ left → rest in_line left ≡ more → FollowsPreamble bytes lines said (front in_line left) more
first_split bytes lines said left more p e r = next_line_follows bytes left (front in_line left) more lines said p e refl (sym r)

rest_length : (left more : List ℕ) (b : ℕ) → rest in_line left ≡ b ∷ more → length more < length left
rest_length left more b e =
    let whole = ap (λ (l : List ℕ). length l) (sym (front_then_rest in_line left) ∙ ap (λ (l : List ℕ). front in_line left ++ l) e) ∙ length-append (front in_line left) (b ∷ more) in
    omega arith

-- a comment whose words are good is followed by a text that is judged, or is the last
good_line : (bytes : List ℕ) (lines : List (List ℕ)) (said : List CxrleWord) (left more : List ℕ) (last : List CxrleWord) → IsPreamble lines said → bytes ≡ flat_map line_with_lf lines ++ left → rest in_line left ≡ more
    → is_front_line (front in_line left) ≡ true → AllZip WordSays (extended_words (front in_line left)) last
    → ((later : List ℕ) → length later < length left → IsPreamble (lines ++ front in_line left ∷ []) (said ++ last) → bytes ≡ flat_map line_with_lf (lines ++ front in_line left ∷ []) ++ later → FileOrFault bytes)
    → FileOrFault bytes
good_line bytes lines said left [] last p e r c w next =
    let s = first_split bytes lines said left [] p e r in
    let line = front in_line left in
    inr (Header, record { lines = lines; said = said; line = line; more = []; follows = s; no_header = λ rule h. true≢false (sym c ∙ no_comment line rule h); no_comment_or_last = inr (refl, (last, w)) })
good_line bytes lines said left (b ∷ bs) last p e r c w next =
    let s = first_split bytes lines said left (b ∷ bs) p e r in
    let line = front in_line left in
    next bs (rest_length left bs b r) (preamble_more lines line said last p s.line_is c w) (s.spelled ∙ ap (λ (d : ℕ). flat_map line_with_lf lines ++ (line ++ d ∷ bs)) (line_ends_by_lf b left bs r) ∙ lines_then lines line bs)

comment_or_fault : (bytes : List ℕ) (lines : List (List ℕ)) (said : List CxrleWord) (left : List ℕ) → IsPreamble lines said → bytes ≡ flat_map line_with_lf lines ++ left → is_front_line (front in_line left) ≡ true
    → ((later : List ℕ) (last : List CxrleWord) → length later < length left → IsPreamble (lines ++ front in_line left ∷ []) (said ++ last) → bytes ≡ flat_map line_with_lf (lines ++ front in_line left ∷ []) ++ later → FileOrFault bytes)
    → FileOrFault bytes
comment_or_fault bytes lines said left p e c next =
    let s = first_split bytes lines said left (rest in_line left) p e refl in
    elim (all_say_or_bad (extended_words (front in_line left))) [
      | inl w ↦ good_line bytes lines said left (rest in_line left) w.0 p e refl c w.1 (λ later. next later w.0)
      | inr b ↦ inr (b.0, first_from_word bytes b.0 (record { lines = lines; said = said; line = front in_line left; more = rest in_line left; follows = s; comment = c; among = b.1 }))
    ]

lines_within : (n : ℕ) (bytes : List ℕ) (lines : List (List ℕ)) (said : List CxrleWord) (left : List ℕ) → length left < n → IsPreamble lines said → bytes ≡ flat_map line_with_lf lines ++ left → FileOrFault bytes
lines_within zero bytes lines said left h p e = absurd (omega arith)
lines_within (suc n) bytes lines said left h p e =
    elim (cases_Bool (is_front_line (front in_line left))) [
      | inl c ↦ comment_or_fault bytes lines said left p e c (λ later last less q d. lines_within n bytes (lines ++ front in_line left ∷ []) (said ++ last) later (omega arith) q d)
      | inr c ↦ not_comment bytes lines said (front in_line left) (rest in_line left) (first_split bytes lines said left (rest in_line left) p e refl) c
    ]

-- every text is a file, or has a first fault
pub file_or_fault : (bytes : List ℕ) → FileOrFault bytes
file_or_fault bytes = lines_within (suc (length bytes)) bytes [] [] bytes (omega arith) (record { each_is_line = tt; comments = tt; words = tt }) refl

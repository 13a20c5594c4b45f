-- The line on which a first fault stands.
use Rattle.std.proofs.Common.{◌≡◌, ◌≢◌, ℕ, ◌+◌, ◌-◌, ◌<◌, max, cond, Bool, true, false, not, List, [], ◌∷◌, ◌++◌, length, take, Option, Some, None, inl, inr, refl, sym, ap, subst, ◌∙◌, append_assoc, arith}
use Rattle.std.specs.Prelude.{MatchOption}
use Rattle.std.specs.List.{count_by, flat_map, AllByRecursion, list_all}
use Rattle.std.proofs.lemmas.Bool.{and_parts, not-true}
use Rattle.std.proofs.lemmas.List.{length-append}
use Rattle.std.proofs.lemmas.List.Sums.{sum_by-append}
use Rattle.std.proofs.Math.Seq.{take-append_seam}
use Rattle.ca_plane.specs.Prelude.{is_line_end, with_front, lines_of}
use Rattle.ca_rle.specs.declared.fault.RleFault.{RleFault}
use Rattle.ca_rle.specs.declared.fault.RleFault.TheVariants.{Syntax, Header, XlifeRule, NoEnd, BadState, GenTooLarge, Range, TooManyCells, Memory}
use Rattle.ca_rle.specs.Prelude.{InLine, IsLine, line_with_lf, after_white, HasBadWord, HasBadItem, IsFirstRleFault, IsRleFault, HasBadWordAt, HasBadItemAt, IsFirstFaultAt, IsFirstRleFaultOn}
use Rattle.ca_rle.specs.Prelude.{IsFaultyRleLine, IsRleFaultOn, line_number_of}
use Rattle.ca_rle.proofs.OnePlace.{EndsPreamble, one_place, xlife_place, no_header_place}
use Rattle.ca_rle.proofs.BadWord.{bad_word_place}
use Rattle.ca_rle.proofs.OneFault.{bad_word_or_header, header_of_headed, one_bad_place, one_first_fault, one_fault}

-- ---- the fault of a line

fault_at : (bytes : List ℕ) (f : RleFault) (rest : List ℕ) → IsFirstFaultAt bytes f rest → IsFirstRleFault bytes f
fault_at bytes Syntax rest (inl p) = inl p.0
fault_at bytes Syntax rest (inr p) = inr p.0
fault_at bytes Range rest p = p
fault_at bytes TooManyCells rest p = p
fault_at bytes Memory rest p = p
fault_at bytes f rest p = p.0

-- what stands on a line is the first fault
pub fault_of_line : (bytes : List ℕ) (f : RleFault) (line : ℕ) → IsFirstRleFaultOn bytes f line → IsFirstRleFault bytes f
fault_of_line bytes f line p = fault_at bytes f p.0 p.1

rest_of : (bytes : List ℕ) (f : RleFault) → IsFirstRleFault bytes f → (rest : List ℕ) × IsFirstFaultAt bytes f rest
rest_of bytes Syntax (inl p) = (_, inl (p, refl))
rest_of bytes Syntax (inr p) = (_, inr (p, refl))
rest_of bytes Range p = absurd p
rest_of bytes TooManyCells p = absurd p
rest_of bytes Memory p = absurd p
rest_of bytes f p = (_, (p, refl))

-- and it stands on a line
pub line_of_fault : (bytes : List ℕ) (f : RleFault) → IsFirstRleFault bytes f → (line : ℕ) × IsFirstRleFaultOn bytes f line
line_of_fault bytes f p = let at = rest_of bytes f p in (line_number_of bytes at.0, (at.0, at.1, refl))

of_first : (bytes : List ℕ) (f : RleFault) → IsFirstRleFault bytes f → IsRleFault bytes f
of_first bytes Range p = absurd p
of_first bytes TooManyCells p = absurd p
of_first bytes Memory p = absurd p
of_first bytes f p = p

no_memory : (bytes : List ℕ) (f : RleFault) → IsFirstRleFault bytes f → f ≢ Memory
no_memory bytes f p e = subst (IsFirstRleFault bytes) e p

-- a first fault at a place is the text's, on the line of that place, and it isn't that memory ran out
pub on_line : (bytes : List ℕ) (f : RleFault) (rest : List ℕ) (line : ℕ) → IsFirstFaultAt bytes f rest → line ≡ line_number_of bytes rest → IsRleFaultOn bytes f (Some line) × (f ≢ Memory)
on_line bytes f rest line p e =
    let first = fault_at bytes f rest p in
    ((of_first bytes f first, (rest, p, e)), no_memory bytes f first)

-- what the line of a text's fault says of faulty lines
pub line_or_none : (bytes : List ℕ) (f : RleFault) (line : Option ℕ) → f ≢ Memory → IsRleFaultOn bytes f line → MatchOption line ((g : RleFault) → IsFirstRleFault bytes g → ⊥) (IsFaultyRleLine bytes)
line_or_none bytes f None n h = λ g p. h.1 (subst (IsFirstRleFault bytes) (one_fault bytes g f (no_memory bytes g p) n (of_first bytes g p) h.0) p)
line_or_none bytes f (Some line) n h = (f, h.1)

-- ---- one line

same_end : (bytes : List ℕ) (ls ks : List (List ℕ)) (a b m n r s : List ℕ) → EndsPreamble bytes ls a m → EndsPreamble bytes ks b n → r ≡ a ++ m → s ≡ b ++ n → r ≡ s
same_end bytes ls ks a b m n r s p q e f = let same = one_place bytes ls ks a b m n p q in rw (e, f, same.1, same.2)

same_word : (bytes : List ℕ) (f : RleFault) (r s : List ℕ) → HasBadWordAt bytes f r → HasBadWordAt bytes f s → r ≡ s
same_word bytes f r s p q = same_end bytes _ _ _ _ _ _ r s (bad_word_place bytes f p.0) (bad_word_place bytes f q.0) p.1 q.1

same_item : (bytes : List ℕ) (f : RleFault) (r s : List ℕ) → HasBadItemAt bytes f r → HasBadItemAt bytes f s → r ≡ s
same_item bytes f r s p q = p.1 ∙ ap (after_white InLine) (one_bad_place bytes f f p.0 q.0) ∙ sym q.1

word_or_item : (bytes : List ℕ) → HasBadWord bytes Syntax → HasBadItem bytes Syntax → ⊥
word_or_item bytes p q = bad_word_or_header bytes Syntax p (header_of_headed bytes q.said q.rule q.body q.headed)

same_rest : (bytes : List ℕ) (f : RleFault) (r s : List ℕ) → IsFirstFaultAt bytes f r → IsFirstFaultAt bytes f s → r ≡ s
same_rest bytes Header r s p q = same_end bytes _ _ _ _ _ _ r s (no_header_place bytes p.0) (no_header_place bytes q.0) p.1 q.1
same_rest bytes XlifeRule r s p q = same_end bytes _ _ _ _ _ _ r s (xlife_place bytes p.0) (xlife_place bytes q.0) p.1 q.1
same_rest bytes GenTooLarge r s p q = same_word bytes GenTooLarge r s p q
same_rest bytes Syntax r s (inl p) (inl q) = same_word bytes Syntax r s p q
same_rest bytes Syntax r s (inl p) (inr q) = absurd (word_or_item bytes p.0 q.0)
same_rest bytes Syntax r s (inr p) (inl q) = absurd (word_or_item bytes q.0 p.0)
same_rest bytes Syntax r s (inr p) (inr q) = same_item bytes Syntax r s p q
same_rest bytes NoEnd r s p q = same_item bytes NoEnd r s p q
same_rest bytes BadState r s p q = same_item bytes BadState r s p q
same_rest bytes f r s p q = absurd p

same_line : (bytes : List ℕ) (f : RleFault) (m n : ℕ) → IsFirstRleFaultOn bytes f m → IsFirstRleFaultOn bytes f n → m ≡ n
same_line bytes f m n p q = p.2 ∙ ap (line_number_of bytes) (same_rest bytes f p.0 q.0 p.1 q.1) ∙ sym q.2

-- a text has one faulty line at most
pub one_faulty_line : (bytes : List ℕ) (m n : ℕ) → IsFaultyRleLine bytes m → IsFaultyRleLine bytes n → m ≡ n
one_faulty_line bytes m n (f, p) (g, q) =
    let same = one_first_fault bytes f g (fault_of_line bytes f m p) (fault_of_line bytes g n q) in
    same_line bytes g m n (subst (λ (h : RleFault). IsFirstRleFaultOn bytes h m) same p) q

-- ---- lines counted

no_ends : (line : List ℕ) → IsLine line → count_by is_line_end line ≡ 0
no_ends [] h = refl
no_ends (b ∷ bs) h = let both = and_parts (not (is_line_end b)) (list_all (λ c. not (is_line_end c)) bs) h in rw (not-true (is_line_end b) both.0, no_ends bs both.1) refl

count-append : (a b : List ℕ) → count_by is_line_end (a ++ b) ≡ count_by is_line_end a + count_by is_line_end b
count-append a b = sum_by-append (λ c. cond (is_line_end c) 1 0) a b

-- whole lines hold as many LFs
ends_of_lines : (lines : List (List ℕ)) → AllByRecursion IsLine lines → count_by is_line_end (flat_map line_with_lf lines) ≡ length lines
ends_of_lines [] h = refl
ends_of_lines (l ∷ ls) h =
    let first = count-append (line_with_lf l) (flat_map line_with_lf ls) in
    let line = count-append l (10 ∷ []) in
    let none = no_ends l h.0 in
    let others = ends_of_lines ls h.1 in
    omega (arith, first, line, none, others)

-- what stands after whole lines and the start of another is on this other line
pub line_after : (lines : List (List ℕ)) (before rest : List ℕ) → AllByRecursion IsLine lines → IsLine before → 0 < length rest → line_number_of (flat_map line_with_lf lines ++ (before ++ rest)) rest ≡ length lines + 1
line_after lines before rest whole start some =
    let all = flat_map line_with_lf lines ++ before in
    let text = flat_map line_with_lf lines ++ (before ++ rest) in
    let joined : text ≡ all ++ rest = sym (append_assoc (flat_map line_with_lf lines) before rest) in
    let long : length text - max 1 (length rest) ≡ length all = let sum = ap length joined ∙ length-append all rest in omega (arith, sum, some) in
    let first : take (length text - max 1 (length rest)) text ≡ all = rw (long, joined) (take-append_seam all rest) in
    let split = ap (count_by is_line_end) first ∙ count-append (flat_map line_with_lf lines) before in
    let ends = ends_of_lines lines whole in
    let none = no_ends before start in
    omega (arith, split, ends, none)

length-with_front : (b : ℕ) (ls : List (List ℕ)) → length (with_front b ls) ≡ max 1 (length ls)
length-with_front b [] = refl
length-with_front b (l ∷ ls) = omega arith

first_byte : (end : Bool) (b : ℕ) → 1 ≡ max 1 (length (cond end ([] ∷ []) ((b ∷ []) ∷ [])))
first_byte true b = refl
first_byte false b = refl

some_lines : (end : Bool) (b : ℕ) (ls : List (List ℕ)) → 0 < length (cond end ([] ∷ ls) (with_front b ls))
some_lines true b ls = omega arith
some_lines false b ls = let more = length-with_front b ls in omega (arith, more)

byte_before : (end : Bool) (b n : ℕ) (ls : List (List ℕ)) → 1 + n ≡ max 1 (length ls) → 0 < length ls → 1 + (cond end 1 0 + n) ≡ max 1 (length (cond end ([] ∷ ls) (with_front b ls)))
byte_before true b n ls e some = omega (arith, e, some)
byte_before false b n ls e some = let more = length-with_front b ls in omega (arith, e, some, more)

none_before : (a b c : ℕ) → a ≡ (0 + b) + c → a ≡ b + c
none_before a b c e = omega (arith, e)

count-first : (b : ℕ) (bs : List ℕ) → count_by is_line_end (b ∷ bs) ≡ cond (is_line_end b) 1 0 + count_by is_line_end bs
count-first b bs = none_before (count_by is_line_end (b ∷ bs)) (cond (is_line_end b) 1 0) (count_by is_line_end bs) (count-append (b ∷ []) bs)

before_last : (b : ℕ) (bs : List ℕ) → line_number_of (b ∷ bs) [] ≡ 1 + count_by is_line_end (take (length bs) (b ∷ bs))
before_last b bs =
    let bytes : length (b ∷ bs) - max 1 0 ≡ length bs = omega arith in
    ap (λ (n : ℕ). 1 + count_by is_line_end (take n (b ∷ bs))) bytes

-- the end of a text is on its last line
pub line_of_end : (text : List ℕ) → line_number_of text [] ≡ max 1 (length (lines_of text))
line_of_end [] = refl
line_of_end (b ∷ []) = first_byte (is_line_end b) b
line_of_end (b ∷ c ∷ cs) =
    before_last b (c ∷ cs) ∙ ap (λ (n : ℕ). 1 + n) (count-first b (take (length cs) (c ∷ cs)))
    ∙ byte_before (is_line_end b) b _ (lines_of (c ∷ cs)) (sym (before_last c cs) ∙ line_of_end (c ∷ cs)) (some_lines (is_line_end c) c (lines_of cs))

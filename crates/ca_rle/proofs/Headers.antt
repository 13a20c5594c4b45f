-- Headers put together from their parts, and what stands in one line.
use Rattle.std.proofs.Common.{◌≡◌, ℕ, Bool, true, false, cond, not, ◌&&◌, ◌==◌, IsTrue, List, [], ◌∷◌, ◌++◌, Option, Some, None, option_and_then, ◌⊎◌, inl, inr, true≢false, append-nil, eq-eqb, eqb-true, ap₂, refl, sym, ap, subst, ◌∙◌, append_assoc, arith}
use Rattle.std.specs.List.{AllZip, list_all}
use Rattle.std.proofs.lemmas.Bool.{and_parts}
use Rattle.std.proofs.lemmas.Bool.Decides.{nat_tests}
use Rattle.std.proofs.lemmas.Option.{none-some, same_Some}
use Rattle.ca_plane.specs.Prelude.{Every, is_blank, is_line_end, is_digit, is_word_byte, IsWord, AreDigits, front, rest, is_end_or}
use Rattle.ca_rle.specs.Prelude.{Part, Exactly, Number, IsHeaderPart, IsSpaced, size_parts, rule_parts, IsHeader, IsLine}
use Rattle.ca_rle.specs.inner.HeaderParts.{strip, left_after, part_left, parts_left}
use Rattle.ca_plane.proofs.Fronts.{every_wider, every_front, front_append, rest_append, front_then_rest}

-- pieces one after another, each after its blanks
abbrev pub joined : List (List ℕ × List ℕ) → List ℕ → List ℕ
joined [] last = last
joined (p ∷ ps) last = p.0 ++ (p.1 ++ joined ps last)

abbrev pub IsPiece : Part → List ℕ × List ℕ → Type 0
IsPiece part piece = Every is_blank piece.0 × IsHeaderPart part piece.1

pub spaced : (parts : List Part) (pieces : List (List ℕ × List ℕ)) (last : List ℕ) → AllZip IsPiece parts pieces → Every is_blank last → IsSpaced parts (joined pieces last)
spaced [] [] last h b = b
spaced (p ∷ ps) (q ∷ qs) last (h, hs) b = (q.0, q.1, joined qs last, h.0, h.1, spaced ps qs last hs b, refl)
spaced [] (q ∷ qs) last h b = absurd h
spaced (p ∷ ps) [] last h b = absurd h

pub digits_are_line : (digits : List ℕ) → AreDigits digits → IsLine digits
digits_are_line [] h = refl
digits_are_line (d ∷ ds) h = every_wider is_digit (λ b. not (is_line_end b)) (λ b t. grind (arith, nat_tests)) (d ∷ ds) h

pub word_is_line : (word : List ℕ) → IsWord word → IsLine word
word_is_line [] h = refl
word_is_line (b ∷ bs) h = every_wider is_word_byte (λ b. not (is_line_end b)) (λ b t. (and_parts (not (is_blank b)) (not (is_line_end b)) t).1) (b ∷ bs) h

-- ---- parts read from the front

-- the first of the parts, or of what stands after them, begins with no digit
abbrev pub opens : List Part → List ℕ → Bool
opens [] more = is_end_or (λ b. not (is_digit b)) more
opens (Exactly [] ∷ ps) more = false
opens (Exactly (c ∷ text) ∷ ps) more = not (is_digit c)
opens (Number ∷ ps) more = false

-- each part ends where its bytes say, and so do the blanks after the last
abbrev pub are_clear : List Part → List ℕ → Bool
are_clear [] more = is_end_or (λ b. not (is_blank b)) more
are_clear (Exactly [] ∷ ps) more = false
are_clear (Exactly (c ∷ text) ∷ ps) more = not (is_blank c) && are_clear ps more
are_clear (Number ∷ ps) more = opens ps more && are_clear ps more

-- after a text is what follows it
pub strip_is : (text more : List ℕ) → strip text (text ++ more) ≡ Some more
strip_is [] more = refl
strip_is (t ∷ ts) more = rw (eq-eqb t t refl) (strip_is ts more)

no_digit_blank : (b : ℕ) → is_blank b ≡ true → not (is_digit b) ≡ true
no_digit_blank b h = grind (arith, nat_tests)

no_blank_digit : (b : ℕ) → is_digit b ≡ true → not (is_blank b) ≡ true
no_blank_digit b h = grind (arith, nat_tests)

-- blanks hide what stands after them
after_blanks : (blanks after : List ℕ) → Every is_blank blanks → IsTrue (is_end_or (λ b. not (is_digit b)) after) → IsTrue (is_end_or (λ b. not (is_digit b)) (blanks ++ after))
after_blanks [] after b h = h
after_blanks (c ∷ cs) after b h = no_digit_blank c (and_parts (is_blank c) (list_all is_blank cs) b).0

opens_is : (ps : List Part) (text more : List ℕ) → IsTrue (opens ps more) → IsSpaced ps text → IsTrue (is_end_or (λ b. not (is_digit b)) (text ++ more))
opens_is [] text more h s = after_blanks text more s h
opens_is (Exactly [] ∷ ps) text more h s = absurd cc
opens_is (Number ∷ ps) text more h s = absurd cc
opens_is (Exactly (c ∷ cs) ∷ ps) text more h (blanks, part, later, b, p, s, e) =
    let whole : text ++ more ≡ blanks ++ (c ∷ (cs ++ (later ++ more))) = ap (λ (l : List ℕ). l ++ more) (e ∙ ap (λ (q : List ℕ). blanks ++ (q ++ later)) p) ∙ simp append_assoc in
    subst (λ (l : List ℕ). is_end_or (λ b. not (is_digit b)) l ≡ true) (sym whole) (after_blanks blanks (c ∷ (cs ++ (later ++ more))) b h)

digits_left : (digits more : List ℕ) → AreDigits digits → IsTrue (is_end_or (λ b. not (is_digit b)) more) → part_left Number (digits ++ more) ≡ Some more
digits_left [] more d h = absurd cc
digits_left (c ∷ cs) more d h = rw (front_append is_digit (c ∷ cs) more d h, rest_append is_digit (c ∷ cs) more d h)

digits_open : (digits after : List ℕ) → AreDigits digits → IsTrue (is_end_or (λ b. not (is_blank b)) (digits ++ after))
digits_open [] after d = absurd cc
digits_open (c ∷ cs) after d = no_blank_digit c (and_parts (is_digit c) (list_all is_digit cs) d).0

part_step : (p : Part) (ps : List Part) (blanks part after : List ℕ) (more : List ℕ) → Every is_blank blanks → IsTrue (is_end_or (λ b. not (is_blank b)) (part ++ after)) → part_left p (part ++ after) ≡ Some after → parts_left ps after ≡ Some more → parts_left (p ∷ ps) (blanks ++ (part ++ after)) ≡ Some more
part_step p ps blanks part after more b n l h = rw (rest_append is_blank blanks (part ++ after) b n, l) h

-- what stands after spaced parts is left by them
pub parts_left_is : (ps : List Part) (text more : List ℕ) → IsTrue (are_clear ps more) → IsSpaced ps text → parts_left ps (text ++ more) ≡ Some more
parts_left_is [] text more c s = ap Some (rest_append is_blank text more s c)
parts_left_is (Exactly [] ∷ ps) text more c s = absurd cc
parts_left_is (Exactly (t ∷ ts) ∷ ps) text more c (blanks, part, later, b, p, s, e) =
    let tests = and_parts (not (is_blank t)) (are_clear ps more) c in
    let whole : text ++ more ≡ blanks ++ ((t ∷ ts) ++ (later ++ more)) = ap (λ (l : List ℕ). l ++ more) (e ∙ ap (λ (q : List ℕ). blanks ++ (q ++ later)) p) ∙ simp append_assoc in
    ap (parts_left (Exactly (t ∷ ts) ∷ ps)) whole ∙ part_step (Exactly (t ∷ ts)) ps blanks (t ∷ ts) (later ++ more) more b tests.0 (strip_is (t ∷ ts) (later ++ more)) (parts_left_is ps later more tests.1 s)
parts_left_is (Number ∷ ps) text more c (blanks, part, later, b, p, s, e) =
    let tests = and_parts (opens ps more) (are_clear ps more) c in
    let whole : text ++ more ≡ blanks ++ (part ++ (later ++ more)) = ap (λ (l : List ℕ). l ++ more) e ∙ simp append_assoc in
    ap (parts_left (Number ∷ ps)) whole ∙ part_step Number ps blanks part (later ++ more) more b (digits_open part (later ++ more) p) (digits_left part (later ++ more) p (opens_is ps later more tests.0 s)) (parts_left_is ps later more tests.1 s)

-- ---- headers

pub clear_word : (text ignored : List ℕ) → IsWord text → IsTrue (is_end_or (λ b. not (is_blank b)) (text ++ ignored))
clear_word [] ignored w = absurd cc
clear_word (b ∷ bs) ignored w = (and_parts (not (is_blank b)) (not (is_line_end b)) (and_parts (is_word_byte b) (list_all is_word_byte bs) w).0).0

-- nothing is left after a header without a rule text
pub header_none : (line : List ℕ) → IsHeader line None → (parts_left (size_parts []) line ≡ Some []) ⊎ (parts_left (size_parts rule_parts) line ≡ Some [])
header_none line (inl s) = inl (rw append-nil at (parts_left_is (size_parts []) line [] refl s))
header_none line (inr s) = inr (rw append-nil at (parts_left_is (size_parts rule_parts) line [] refl s))

-- after the parts of a header with a rule text stand that and what is ignored
pub header_some : (line text : List ℕ) → IsHeader line (Some text) → (ignored : List ℕ) × IsWord text × IsTrue (is_end_or is_blank ignored) × (parts_left (size_parts rule_parts) line ≡ Some (text ++ ignored))
header_some line text (front, ignored, s, w, i, e) = (ignored, w, i, ap (parts_left (size_parts rule_parts)) e ∙ parts_left_is (size_parts rule_parts) front (text ++ ignored) (clear_word text ignored w) s)

-- something is left, or the parts don't stand there
abbrev pub has_more : Option (List ℕ) → Bool
has_more None = true
has_more (Some []) = false
has_more (Some (b ∷ bs)) = true

-- a line that has neither form is no header
pub no_header : (line : List ℕ) → has_more (parts_left (size_parts []) line) ≡ true → parts_left (size_parts rule_parts) line ≡ None → (rule : Option (List ℕ)) → IsHeader line rule → ⊥
no_header line m n None h =
    elim (header_none line h) [
      | inl e ↦ true≢false (sym m ∙ ap has_more e)
      | inr e ↦ none-some [] (sym n ∙ e)
    ]
no_header line m n (Some text) h = let s = header_some line text h in none-some (text ++ s.0) (sym n ∙ s.3)

-- ---- what is read so stands there

some_of_cond : (b : Bool) (o : Option (List ℕ)) (more : List ℕ) → cond b o None ≡ Some more → (b ≡ true) × (o ≡ Some more)
some_of_cond true o more e = (refl, e)
some_of_cond false o more e = absurd cc

-- where the second step leaves something, so does the first
pub then_some_of : (f : List ℕ → Option (List ℕ)) (o : Option (List ℕ)) (more : List ℕ) → option_and_then f o ≡ Some more → (mid : List ℕ) × (o ≡ Some mid) × (f mid ≡ Some more)
then_some_of f None more e = absurd cc
then_some_of f (Some mid) more e = (mid, refl, e)

-- bytes that something is left of begin with the text
pub strip_found : (text bytes more : List ℕ) → strip text bytes ≡ Some more → bytes ≡ text ++ more
strip_found [] bytes more e = same_Some bytes more e
strip_found (t ∷ ts) [] more e = absurd cc
strip_found (t ∷ ts) (b ∷ bs) more e =
    let p = some_of_cond (t == b) (strip ts bs) more e in
    ap₂ (λ (c : ℕ) (l : List ℕ). c ∷ l) (sym (eqb-true t b p.0)) (strip_found ts bs more p.1)

left_found : (digits after more : List ℕ) → Every is_digit digits → left_after digits after ≡ Some more → AreDigits digits × (after ≡ more)
left_found [] after more d e = absurd cc
left_found (c ∷ cs) after more d e = (d, same_Some after more e)

part_found : (p : Part) (bytes more : List ℕ) → part_left p bytes ≡ Some more → (part : List ℕ) × IsHeaderPart p part × (bytes ≡ part ++ more)
part_found (Exactly text) bytes more e = (text, refl, strip_found text bytes more e)
part_found Number bytes more e =
    let f = left_found (front is_digit bytes) (rest is_digit bytes) more (every_front is_digit bytes) e in
    (front is_digit bytes, f.0, sym (front_then_rest is_digit bytes) ∙ ap (λ (l : List ℕ). front is_digit bytes ++ l) f.1)

-- the parts stand in front of what they leave
pub parts_found : (ps : List Part) (bytes more : List ℕ) → parts_left ps bytes ≡ Some more → (text : List ℕ) × IsSpaced ps text × (bytes ≡ text ++ more)
parts_found [] bytes more e = (front is_blank bytes, every_front is_blank bytes, sym (front_then_rest is_blank bytes) ∙ ap (λ (l : List ℕ). front is_blank bytes ++ l) (same_Some (rest is_blank bytes) more e))
parts_found (p ∷ ps) bytes more e =
    let step = then_some_of (parts_left ps) (part_left p (rest is_blank bytes)) more e in
    let part = part_found p (rest is_blank bytes) step.0 step.1 in
    let others = parts_found ps step.0 more step.2 in
    let blanks = front is_blank bytes in
    let whole : bytes ≡ blanks ++ (part.0 ++ (others.0 ++ more)) = sym (front_then_rest is_blank bytes) ∙ ap (λ (l : List ℕ). blanks ++ l) (part.2 ∙ ap (λ (l : List ℕ). part.0 ++ l) others.2) in
    (blanks ++ (part.0 ++ others.0), (blanks, part.0, others.0, every_front is_blank bytes, part.1, others.1, refl), whole ∙ simp append_assoc)

pub spaced_found : (ps : List Part) (line : List ℕ) → parts_left ps line ≡ Some [] → IsSpaced ps line
spaced_found ps line e = let f = parts_found ps line [] e in subst (λ (l : List ℕ). IsSpaced ps l) (sym (f.2 ∙ append-nil f.0)) f.1

-- a word after the parts is a rule text
pub header_found : (line text ignored : List ℕ) → parts_left (size_parts rule_parts) line ≡ Some (text ++ ignored) → IsWord text → IsTrue (is_end_or is_blank ignored) → IsHeader line (Some text)
header_found line text ignored e w i = let f = parts_found (size_parts rule_parts) line (text ++ ignored) e in (f.0, ignored, f.1, w, i, f.2)

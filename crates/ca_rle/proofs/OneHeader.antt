-- A line is a header in one way at most, and a word says one thing at most.
use Rattle.std.proofs.Common.{◌≡◌, ℕ, Bool, true, false, cond, not, ◌==◌, inl, inr, IsTrue, List, [], ◌∷◌, ◌++◌, Option, Some, None, option_and_then, ℤ, codes, nat_eq, append-nil, true≢false, refl, sym, ap, ap₂, subst, ◌∙◌, append_assoc, arith}
use Rattle.std.specs.List.{AllZip, starts_with}
use Rattle.std.proofs.lemmas.List.{append_cancel_left}
use Rattle.std.proofs.lemmas.Bool.Decides.{nat_tests}
use Rattle.ca_plane.specs.Prelude.{Every, is_blank, is_digit, is_word_byte, is_end_or, front, rest, IsInteger, IsWord, value}
use Rattle.ca_rle.specs.Prelude.{Part, IsSpaced, size_parts, rule_parts, IsHeader, is_front_line, CxrleWord, Corner, Generation, Nothing, WordSays}
use Rattle.ca_rle.specs.inner.HeaderParts.{part_left, parts_left}
use Rattle.ca_plane.proofs.Fronts.{front_append, rest_append, one_split, every_wider, every_digit, every_word_byte}
use Rattle.ca_plane.proofs.Integers.{one_integer}
use Rattle.ca_rle.proofs.Headers.{header_none, header_some}

-- ---- headers

rest_rest : (test : ℕ → Bool) (bytes : List ℕ) → rest test bytes ≡ rest test (rest test bytes)
rest_rest test [] = refl
rest_rest test (b ∷ bs) = rest_step test b bs (test b) refl (rest_rest test bs)
  where
    rest_step : (test : ℕ → Bool) (b : ℕ) (bs : List ℕ) (v : Bool) → test b ≡ v → rest test bs ≡ rest test (rest test bs) → cond v (rest test bs) (b ∷ bs) ≡ rest test (cond v (rest test bs) (b ∷ bs))
    rest_step test b bs true e h = h
    rest_step test b bs false e h = rw e

from_rest : (ps : List Part) (bytes : List ℕ) → parts_left ps bytes ≡ parts_left ps (rest is_blank bytes)
from_rest [] bytes = ap Some (rest_rest is_blank bytes)
from_rest (p ∷ ps) bytes = ap (λ (l : List ℕ). option_and_then (parts_left ps) (part_left p l)) (rest_rest is_blank bytes)

then_then : (f g h : List ℕ → Option (List ℕ)) (o : Option (List ℕ)) → ((bytes : List ℕ) → h bytes ≡ option_and_then g (f bytes)) → option_and_then h o ≡ option_and_then g (option_and_then f o)
then_then f g h None e = refl
then_then f g h (Some bytes) e = e bytes

-- parts and then parts
pub parts_append : (ps qs : List Part) (bytes : List ℕ) → parts_left (ps ++ qs) bytes ≡ option_and_then (parts_left qs) (parts_left ps bytes)
parts_append [] qs bytes = from_rest qs bytes
parts_append (p ∷ ps) qs bytes = then_then (parts_left ps) (parts_left qs) (parts_left (ps ++ qs)) (part_left p (rest is_blank bytes)) (parts_append ps qs)

abbrev word_or_none : List ℕ → Option (List ℕ)
word_or_none [] = None
word_or_none (b ∷ bs) = Some (b ∷ bs)

-- the rule text that a header names
abbrev rule_after : Option (List ℕ) → Option (List ℕ)
rule_after None = None
rule_after (Some more) = word_or_none (front is_word_byte more)

word_ends : (b : ℕ) → is_blank b ≡ true → not (is_word_byte b) ≡ true
word_ends b h = rw h

ignored_ends : (ignored : List ℕ) → IsTrue (is_end_or is_blank ignored) → IsTrue (is_end_or (λ b. not (is_word_byte b)) ignored)
ignored_ends [] h = refl
ignored_ends (b ∷ bs) h = word_ends b h

is_some_word : (text : List ℕ) → IsWord text → word_or_none text ≡ Some text
is_some_word [] w = absurd cc
is_some_word (b ∷ bs) w = refl

rule_is : (line : List ℕ) (rule : Option (List ℕ)) → IsHeader line rule → rule_after (parts_left (size_parts rule_parts) line) ≡ rule
rule_is line None h =
    elim (header_none line h) [
      | inl e ↦ ap rule_after (parts_append (size_parts []) rule_parts line ∙ ap (option_and_then (parts_left rule_parts)) e)
      | inr e ↦ ap rule_after e
    ]
rule_is line (Some text) h =
    let s = header_some line text h in
    ap rule_after s.3 ∙ ap word_or_none (front_append is_word_byte text s.0 (every_word_byte text s.1) (ignored_ends s.0 s.2)) ∙ is_some_word text s.1

pub one_header : (line : List ℕ) (r s : Option (List ℕ)) → IsHeader line r → IsHeader line s → r ≡ s
one_header line r s p q = sym (rule_is line r p) ∙ rule_is line s q

-- ---- what words say

no_comma_digit : (b : ℕ) → is_digit b ≡ true → not (b == 44) ≡ true
no_comma_digit b h = grind (arith, nat_tests)

abbrev pub no_comma : ℕ → Bool
no_comma b = not (b == 44)

pub integer_has_no_comma : (bytes : List ℕ) (x : ℤ) → IsInteger bytes x → Every no_comma bytes
integer_has_no_comma bytes x (inl (d, e)) = every_wider is_digit no_comma no_comma_digit bytes (every_digit bytes d)
integer_has_no_comma bytes x (inr (digits, spelled, d, e)) = rw spelled (every_wider is_digit no_comma no_comma_digit digits (every_digit digits d))

begins_pos : (word more : List ℕ) → word ≡ codes "Pos=" ++ more → starts_with nat_eq word (codes "Pos=") ≡ true
begins_pos word more e = rw e

pub begins_gen : (word more : List ℕ) → word ≡ codes "Gen=" ++ more → starts_with nat_eq word (codes "Gen=") ≡ true
begins_gen word more e = rw e

pos_or_gen : (word a b : List ℕ) → word ≡ codes "Pos=" ++ a → word ≡ codes "Gen=" ++ b → ⊥
pos_or_gen word a b p q = true≢false (sym (begins_pos word a p) ∙ ap (λ (l : List ℕ). starts_with nat_eq l (codes "Pos=")) q)

pub one_said : (word : List ℕ) (s t : CxrleWord) → WordSays word s → WordSays word t → s ≡ t
one_said word (Corner x y) (Corner u v) (a, b, e, p, q) (c, d, f, r, s) =
    let split = one_split no_comma a c (44 ∷ b) (44 ∷ d) (integer_has_no_comma a x p) (integer_has_no_comma c u r) refl refl (append_cancel_left (codes "Pos=") _ _ (sym e ∙ f)) in
    let second : b ≡ d = append_cancel_left (44 ∷ []) b d split.1 in
    ap₂ Corner (one_integer c x u (subst (λ (l : List ℕ). IsInteger l x) split.0 p) r) (one_integer d y v (subst (λ (l : List ℕ). IsInteger l y) second q) s)
one_said word (Generation m) (Generation n) (a, e, p, q, h) (b, f, r, s, k) = ap Generation (q ∙ ap value (append_cancel_left (codes "Gen=") a b (sym e ∙ f)) ∙ sym s)
one_said word Nothing Nothing h k = refl
one_said word (Corner x y) (Generation n) (a, b, e, p, q) (d, f, r, m, l) = absurd (pos_or_gen word (a ++ 44 ∷ b) d e f)
one_said word (Generation n) (Corner x y) (d, f, r, m, l) (a, b, e, p, q) = absurd (pos_or_gen word (a ++ 44 ∷ b) d e f)
one_said word (Corner x y) Nothing (a, b, e, p, q) (h, k) = absurd (true≢false (sym (begins_pos word (a ++ 44 ∷ b) e) ∙ h))
one_said word Nothing (Corner x y) (h, k) (a, b, e, p, q) = absurd (true≢false (sym (begins_pos word (a ++ 44 ∷ b) e) ∙ h))
one_said word (Generation n) Nothing (d, f, r, m, l) (h, k) = absurd (true≢false (sym (begins_gen word d f) ∙ k))
one_said word Nothing (Generation n) (h, k) (d, f, r, m, l) = absurd (true≢false (sym (begins_gen word d f) ∙ k))

pub all_said : (words : List (List ℕ)) (a b : List CxrleWord) → AllZip WordSays words a → AllZip WordSays words b → a ≡ b
all_said [] [] [] p q = refl
all_said (w ∷ ws) (s ∷ ss) (t ∷ ts) (p, ps) (q, qs) = ap₂ (λ (x : CxrleWord) (l : List CxrleWord). x ∷ l) (one_said w s t p q) (all_said ws ss ts ps qs)
all_said [] (s ∷ ss) b p q = absurd p
all_said [] [] (t ∷ ts) p q = absurd q
all_said (w ∷ ws) [] b p q = absurd p
all_said (w ∷ ws) (s ∷ ss) [] p q = absurd q

-- ---- a header is no comment

x_is_no_comment : (ps : List Part) (text more : List ℕ) → IsSpaced (size_parts ps) text → is_front_line (text ++ more) ≡ false
x_is_no_comment ps text more (blanks, part, later, b, p, s, e) =
    let whole : text ++ more ≡ blanks ++ (120 ∷ (later ++ more)) = ap (λ (l : List ℕ). l ++ more) (e ∙ ap (λ (q : List ℕ). blanks ++ (q ++ later)) p) ∙ append_assoc blanks (120 ∷ later) more in
    ap is_front_line whole ∙ ap (is_end_or (λ b. b == 35)) (rest_append is_blank blanks (120 ∷ (later ++ more)) b refl)

pub no_comment : (line : List ℕ) (rule : Option (List ℕ)) → IsHeader line rule → is_front_line line ≡ false
no_comment line None (inl s) = rw append-nil at (x_is_no_comment [] line [] s)
no_comment line None (inr s) = rw append-nil at (x_is_no_comment rule_parts line [] s)
no_comment line (Some text) (front, ignored, s, w, i, e) = ap is_front_line e ∙ x_is_no_comment rule_parts front (text ++ ignored) s

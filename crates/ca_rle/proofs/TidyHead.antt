-- The first line of a tidy text says its corner and its generation, and the second is a header with its rule text.
use Rattle.std.proofs.Common.{◌≡◌, ℕ, ◌<◌, ◌^◌, ◌==◌, true, not, inl, inr, List, [], ◌∷◌, ◌++◌, Some, ℤ, codes, decimal, refl, sym, ap, subst, ◌∙◌, append_assoc, append-nil, arith}
use Rattle.std.specs.Fmt.{signed_decimal}
use Rattle.std.specs.List.{AllZip}
use Rattle.std.proofs.lemmas.Bool.{cases_Bool, and_parts, eqb-true}
use Rattle.ca_plane.specs.declared.point.Point.{Point}
use Rattle.ca_plane.specs.Prelude.{is_blank, is_line_end, is_word_byte, is_end_or, Every, words_of, IsWord, AreDigits, IsInteger}
use Rattle.ca_plane.proofs.Lines.{words_ahead, words_next}
use Rattle.ca_rle.specs.Prelude.{IsSpaced, size_parts, rule_parts, IsHeader, is_front_line, words_after_cxrle, extended_words, CxrleWord, Corner, Generation, WordSays, IsLine, corner_of}
use Rattle.ca_rle.specs.Prelude.{generation_of, generation_text, corner_line, header_line}
use Rattle.ca_plane.proofs.Fronts.{every_append, every_wider, digits_in_word}
use Rattle.ca_rle.proofs.Headers.{spaced, digits_are_line, word_is_line}
use Rattle.ca_plane.proofs.Decimals.{decimal_writes, IsNear, signed_writes}

-- ---- bytes of words

line_from_word : (bytes : List ℕ) → Every is_word_byte bytes → IsLine bytes
line_from_word bytes h = every_wider is_word_byte (λ b. not (is_line_end b)) (λ b t. (and_parts (not (is_blank b)) (not (is_line_end b)) t).1) bytes h

integer_in_word : (bytes : List ℕ) (n : ℤ) → IsInteger bytes n → Every is_word_byte bytes
integer_in_word bytes n (inl (d, e)) = digits_in_word bytes d
integer_in_word bytes n (inr (digits, b, d, e)) = rw b (digits_in_word digits d)

-- ---- the first line

-- `Pos=X,Y`
abbrev pos_word : List ℕ → List ℕ → List ℕ
pos_word a b = codes "Pos=" ++ (a ++ 44 ∷ b)

pos_is_word : (a b : List ℕ) → Every is_word_byte a → Every is_word_byte b → IsWord (pos_word a b)
pos_is_word a b p q = every_append is_word_byte a (44 ∷ b) p q

-- what stands after the corner's word says the generation
record SaysCount (bytes : List ℕ) (count : ℕ) : Type 0 where
  said : List CxrleWord
  blank_first : is_end_or is_blank bytes ≡ true
  words : AllZip WordSays (words_of bytes) said
  line : IsLine bytes
  no_corner : (p : Point) → corner_of (Corner p.x p.y ∷ said) ≡ p
  generation : (x y : ℤ) → generation_of (Corner x y ∷ said) ≡ count

says_nothing : (count : ℕ) → count ≡ 0 → SaysCount [] count
says_nothing count none = record {
  said = [];
  blank_first = refl;
  words = tt;
  line = refl;
  no_corner = λ p. refl;
  generation = λ x y. sym none;
}

gen_words : (digits : List ℕ) → AreDigits digits → words_of (codes " Gen=" ++ digits) ≡ (codes "Gen=" ++ digits) ∷ []
gen_words digits d = ap words_of (ap (λ l. codes " Gen=" ++ l) (sym (append-nil digits))) ∙ words_next (32 ∷ []) (codes "Gen=" ++ digits) [] refl (digits_in_word digits d) refl

says_count : (count : ℕ) → count < 2 ^ 63 → SaysCount (codes " Gen=" ++ decimal count) count
says_count count small =
    let w = decimal_writes count (omega arith) in
    record {
      said = Generation count ∷ [];
      blank_first = refl;
      words = subst (λ l. AllZip WordSays l (Generation count ∷ [])) (sym (gen_words (decimal count) w.0)) ((decimal count, refl, w.0, w.1, small), tt);
      line = line_from_word (decimal count) (digits_in_word (decimal count) w.0);
      no_corner = λ p. refl;
      generation = λ x y. refl;
    }

generation_says : (count : ℕ) → count < 2 ^ 63 → SaysCount (generation_text count) count
generation_says count small =
    elim (cases_Bool (count == 0)) [
      | inl e ↦ rw e (says_nothing count (eqb-true count 0 e))
      | inr e ↦ rw e (says_count count small)
    ]

-- the line is a comment that says the corner and the generation
pub record SaysBoth (line : List ℕ) (corner : Point) (generation : ℕ) : Type 0 where
  pub said : List CxrleWord
  pub is_line : IsLine line
  pub comment : is_front_line line ≡ true
  pub words : AllZip WordSays (extended_words line) said
  pub corner_is : corner_of said ≡ corner
  pub generation_is : generation_of said ≡ generation

says_both : (a b more : List ℕ) (corner : Point) (generation : ℕ) → IsInteger a corner.x → IsInteger b corner.y → SaysCount more generation
    → SaysBoth (codes "#CXRLE Pos=" ++ (a ++ (codes "," ++ (b ++ more)))) corner generation
says_both a b more corner generation p q s =
    let u = integer_in_word a corner.x p in
    let v = integer_in_word b corner.y q in
    let first : words_of (codes "#CXRLE Pos=" ++ (a ++ (codes "," ++ (b ++ more)))) ≡ codes "#CXRLE" ∷ words_of (codes "Pos=" ++ (a ++ (codes "," ++ (b ++ more)))) =
    words_ahead (codes "#CXRLE") (codes " Pos=" ++ (a ++ (codes "," ++ (b ++ more)))) refl refl in
    let group : codes "Pos=" ++ (a ++ (codes "," ++ (b ++ more))) ≡ pos_word a b ++ more = ap (λ l. codes "Pos=" ++ l) (sym (append_assoc a (44 ∷ b) more)) in
    let words : words_of (codes "Pos=" ++ (a ++ (codes "," ++ (b ++ more)))) ≡ pos_word a b ∷ words_of more = ap words_of group ∙ words_ahead (pos_word a b) more (pos_is_word a b u v) s.blank_first in
    let all : extended_words (codes "#CXRLE Pos=" ++ (a ++ (codes "," ++ (b ++ more)))) ≡ pos_word a b ∷ words_of more = ap words_after_cxrle (first ∙ ap (λ l. codes "#CXRLE" ∷ l) words) in
    record {
      said = Corner corner.x corner.y ∷ s.said;
      is_line = every_append _ a (codes "," ++ (b ++ more)) (line_from_word a u) (every_append _ b more (line_from_word b v) s.line);
      comment = refl;
      words = subst (λ l. AllZip WordSays l (Corner corner.x corner.y ∷ s.said)) (sym all) ((a, b, refl, p, q), s.words);
      corner_is = s.no_corner corner;
      generation_is = s.generation corner.x corner.y;
    }

pub corner_line_says : (far : ℕ) (corner : Point) (generation : ℕ) → far < 2 ^ 64 → IsNear far corner.x → IsNear far corner.y → generation < 2 ^ 63 → SaysBoth (corner_line corner generation) corner generation
corner_line_says far corner generation short p q small =
    says_both (signed_decimal corner.x) (signed_decimal corner.y) (generation_text generation) corner generation
    (signed_writes far corner.x short p) (signed_writes far corner.y short q) (generation_says generation small)

-- ---- the header

-- the header up to its rule text
abbrev before_rule : List ℕ → List ℕ → List ℕ
before_rule width height = codes "x = " ++ (width ++ (codes ", y = " ++ (height ++ codes ", rule = ")))

before_rule_is_spaced : (width height : List ℕ) → AreDigits width → AreDigits height → IsSpaced (size_parts rule_parts) (before_rule width height)
before_rule_is_spaced width height w h =
    spaced (size_parts rule_parts)
    (([], codes "x") ∷ (codes " ", codes "=") ∷ (codes " ", width) ∷ ([], codes ",") ∷ (codes " ", codes "y") ∷ (codes " ", codes "=") ∷ (codes " ", height)
    ∷ ([], codes ",") ∷ (codes " ", codes "rule") ∷ (codes " ", codes "=") ∷ [])
    (codes " ")
    ((refl, refl), ((refl, refl), ((refl, w), ((refl, refl), ((refl, refl), ((refl, refl), ((refl, h), ((refl, refl), ((refl, refl), ((refl, refl), tt))))))))))
    refl

regroup : (x width y height rule rule_text : List ℕ) → x ++ (width ++ (y ++ (height ++ (rule ++ rule_text)))) ≡ (x ++ (width ++ (y ++ (height ++ rule)))) ++ (rule_text ++ [])
regroup x width y height rule rule_text = simp (append_assoc, append-nil)

pub header_line_is : (width height : ℕ) (rule_text : List ℕ) → width < 2 ^ 64 → height < 2 ^ 64 → IsWord rule_text → IsHeader (header_line width height rule_text) (Some rule_text)
header_line_is width height rule_text p q r =
    let w = (decimal_writes width p).0 in
    let h = (decimal_writes height q).0 in (
      before_rule (decimal width) (decimal height),
      [],
      before_rule_is_spaced (decimal width) (decimal height) w h,
      r,
      refl,
      regroup (codes "x = ") (decimal width) (codes ", y = ") (decimal height) (codes ", rule = ") rule_text,
    )

pub header_line_is_line : (width height : ℕ) (rule_text : List ℕ) → width < 2 ^ 64 → height < 2 ^ 64 → IsWord rule_text → IsLine (header_line width height rule_text)
header_line_is_line width height rule_text p q r =
    let line = λ (b : ℕ). not (is_line_end b) in
    every_append line (decimal width) (codes ", y = " ++ (decimal height ++ (codes ", rule = " ++ rule_text))) (digits_are_line (decimal width) (decimal_writes width p).0)
    (every_append line (decimal height) (codes ", rule = " ++ rule_text) (digits_are_line (decimal height) (decimal_writes height q).0) (word_is_line rule_text r))

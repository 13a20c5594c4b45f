-- The lines of a text up to its header, split off one after another.
use Rattle.std.proofs.Common.{◌≡◌, ℕ, ◌<◌, suc, true, not, List, [], ◌∷◌, ◌++◌, length, inl, inr, refl, sym, ap, subst, ◌∙◌, append_assoc, arith}
use Rattle.std.specs.List.{AllZip, flat_map, list_all}
use Rattle.std.proofs.lemmas.Bool.{both_ways, not-true, not-false, eqb-true}
use Rattle.std.proofs.lemmas.Grind.{flat_map-append}
use Rattle.std.proofs.lemmas.List.{append-nil, nil_from_length}
use Rattle.ca_plane.specs.Prelude.{is_line_end, is_end_or, front, rest}
use Rattle.ca_plane.proofs.Fronts.{front_then_rest, every_front, rest_ends, front_length}
use Rattle.ca_rle.specs.declared.fault.RleFault.{RleFault}
use Rattle.ca_rle.specs.declared.fault.RleFault.TheVariants.{Syntax, GenTooLarge}
use Rattle.ca_rle.specs.Prelude.{is_front_line, extended_words, CxrleWord, WordSays, IsLine, line_with_lf, IsPreamble, FollowsPreamble, HasBadWordAmong, HasBadWord, HasNoHeader, HasNoHeaderAt}
use Rattle.ca_rle.specs.Prelude.{IsFirstFaultAt}
use Rattle.ca_rle.proofs.OneHeader.{no_comment}

-- the bytes of a line
pub first_line_is_line : (bytes line : List ℕ) → line ≡ front (λ b. not (is_line_end b)) bytes → IsLine line
first_line_is_line bytes line e = ap (list_all (λ b. not (is_line_end b))) e ∙ every_front (λ b. not (is_line_end b)) bytes

ends : (after : List ℕ) → is_end_or (λ b. not (not (is_line_end b))) after ≡ true → is_end_or is_line_end after ≡ true
ends [] h = refl
ends (b ∷ bs) h = not-false (is_line_end b) (not-true (not (is_line_end b)) h)

-- what stands after a line is empty or begins with its LF
pub first_line_ends : (bytes after : List ℕ) → after ≡ rest (λ b. not (is_line_end b)) bytes → is_end_or is_line_end after ≡ true
first_line_ends bytes after e = ends after (ap (is_end_or (λ b. not (not (is_line_end b)))) e ∙ rest_ends (λ b. not (is_line_end b)) bytes)

-- the bytes are the lines so far, the next line, and what stands after it
pub split_there : (bytes more line after : List ℕ) (lines : List (List ℕ)) → bytes ≡ flat_map line_with_lf lines ++ more → line ≡ front (λ b. not (is_line_end b)) more → after ≡ rest (λ b. not (is_line_end b)) more
    → (bytes ≡ flat_map line_with_lf lines ++ (line ++ after)) × (line ++ after ≡ more)
split_there bytes more line after lines e f r =
    let whole : line ++ after ≡ more = rw (f, r) (front_then_rest (λ b. not (is_line_end b)) more) in
    (e ∙ ap (λ (l : List ℕ). flat_map line_with_lf lines ++ l) (sym whole), whole)

-- with the next line among the lines
pub line_passed : (bytes line after later : List ℕ) (b : ℕ) (lines : List (List ℕ)) → bytes ≡ flat_map line_with_lf lines ++ (line ++ after) → after ≡ b ∷ later → is_end_or is_line_end after ≡ true
    → bytes ≡ flat_map line_with_lf (lines ++ line ∷ []) ++ later
line_passed bytes line after later b lines e f h =
    let lf : b ≡ 10 = eqb-true b 10 (ap (is_end_or is_line_end) (sym f) ∙ h) in
    let passed : flat_map line_with_lf (lines ++ line ∷ []) ≡ flat_map line_with_lf lines ++ line_with_lf line = flat_map-append line_with_lf lines (line ∷ []) ∙ ap (λ (l : List ℕ). flat_map line_with_lf lines ++ l) (append-nil (line_with_lf line)) in
    let last : line ++ after ≡ line_with_lf line ++ later = ap (λ (l : List ℕ). line ++ l) (f ∙ ap (λ (c : ℕ). c ∷ later) lf) ∙ sym (append_assoc line (10 ∷ []) later) in
    e ∙ ap (λ (l : List ℕ). flat_map line_with_lf lines ++ l) last ∙ sym (append_assoc (flat_map line_with_lf lines) (line_with_lf line) later) ∙ ap (λ (l : List ℕ). l ++ later) (sym passed)

-- the bytes after a line's LF are fewer
pub fewer_after : (bytes after later : List ℕ) (b : ℕ) → after ≡ rest (λ b. not (is_line_end b)) bytes → after ≡ b ∷ later → length later < length bytes
fewer_after bytes after later b e f =
    let whole = front_length (λ b. not (is_line_end b)) bytes in
    let long : length (rest (λ b. not (is_line_end b)) bytes) ≡ suc (length later) = ap length (sym e ∙ f) in
    omega arith

-- a fault of the same bytes, at the same place
pub fault_there : (bytes same rest left : List ℕ) (f : RleFault) → bytes ≡ same → rest ≡ left → IsFirstFaultAt same f rest → IsFirstFaultAt bytes f left
fault_there bytes same rest left f e r h = subst (λ (l : List ℕ). IsFirstFaultAt bytes f l) r (subst (λ (l : List ℕ). IsFirstFaultAt l f rest) (sym e) h)

-- the next line follows the lines so far
pub next_line_follows : (bytes more line after : List ℕ) (lines : List (List ℕ)) (said : List CxrleWord) → IsPreamble lines said → bytes ≡ flat_map line_with_lf lines ++ more
    → line ≡ front (λ b. not (is_line_end b)) more → after ≡ rest (λ b. not (is_line_end b)) more → FollowsPreamble bytes lines said line after
next_line_follows bytes more line after lines said p e f r = record {
  preamble = p;
  line_is = first_line_is_line more line f;
  line_ends = first_line_ends more after r;
  spelled = (split_there bytes more line after lines e f r).0;
}

module _ (bytes line after : List ℕ) (lines : List (List ℕ)) (said : List CxrleWord) (follows : FollowsPreamble bytes lines said line after) (comment : is_front_line line ≡ true) where
  bad_word : (f : RleFault) → HasBadWordAmong (extended_words line) f → HasBadWord bytes f
  bad_word f h = record { lines = lines; said = said; line = line; more = after; follows = follows; comment = comment; among = h }

  -- a bad word in the line is the text's fault
  pub word_fault : (f : RleFault) → HasBadWordAmong (extended_words line) f → IsFirstFaultAt bytes f (line ++ after)
  unfolding bad_word
  word_fault Syntax h = inl (bad_word Syntax h, refl)
  word_fault GenTooLarge h = (bad_word GenTooLarge h, refl)
  word_fault f h = absurd h.bad

  has_no_header : (last : List CxrleWord) → AllZip WordSays (extended_words line) last → length after ≡ 0 → HasNoHeader bytes
  has_no_header last z none = record {
    lines = lines;
    said = said;
    line = line;
    more = after;
    follows = follows;
    no_header = λ rule h. both_ways _ (no_comment line rule h) comment;
    no_comment_or_last = inr (nil_from_length after none, (last, z));
  }

  -- a comment with good words at the text's end is no header
  pub no_header_there : (last : List CxrleWord) → AllZip WordSays (extended_words line) last → length after ≡ 0 → HasNoHeaderAt bytes (line ++ after)
  unfolding has_no_header
  no_header_there last z none = (has_no_header last z none, refl)

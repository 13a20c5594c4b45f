-- A header line, read part by part.
use Rattle.std.proofs.Common.{◌≡◌, ℕ, true, false, not, eqb, ◌<◌, List, [], ◌∷◌, ◌++◌, length, Option, Some, None, option_and_then, inl, inr, refl, sym, ap, ◌∙◌, arith}
use Rattle.std.specs.List.{list_all}
use Rattle.std.proofs.lemmas.Bool.{and_parts, and_from, eqb-true, eqb-false}
use Rattle.std.proofs.lemmas.List.{nil_from_length}
use Rattle.std.proofs.lemmas.Option.{same_Some}
use Rattle.ca_plane.specs.Prelude.{is_blank, is_line_end, is_word_byte, front, rest, is_end_or}
use Rattle.ca_plane.proofs.Lines.{ends_by_blank}
use Rattle.ca_rle.specs.Prelude.{Part, Exactly, size_parts, rule_parts, IsHeader, IsLine}
use Rattle.ca_rle.specs.inner.HeaderParts.{strip, part_left, parts_left}
use Rattle.ca_plane.proofs.Fronts.{every_front, every_right, every_rest, rest_ends, front_then_rest}
use Rattle.ca_rle.proofs.Headers.{strip_is, strip_found, then_some_of, parts_found, spaced_found, header_found, has_more, no_header}
use Rattle.ca_rle.proofs.OneHeader.{parts_append}
use Rattle.ca_plane.proofs.FirstWords.{word_from}

-- ---- parts

no_some : (o : Option (List ℕ)) → ((r : List ℕ) → o ≡ Some r → ⊥) → o ≡ None
no_some None h = refl
no_some (Some r) h = absurd (h r refl)

-- bytes that don't begin with the text after their blanks
pub text_missing : (text bytes : List ℕ) → ((r : List ℕ) → rest is_blank bytes ≡ text ++ r → ⊥) → parts_left (Exactly text ∷ []) bytes ≡ None
text_missing text bytes none = ap (option_and_then (parts_left [])) (no_some (strip text (rest is_blank bytes)) (λ r e. none r (strip_found text (rest is_blank bytes) r e)))

-- bytes that do
pub text_left : (text bytes after : List ℕ) → rest is_blank bytes ≡ text ++ after → parts_left (Exactly text ∷ []) bytes ≡ Some (rest is_blank after)
text_left text bytes after e = ap (option_and_then (parts_left [])) (ap (strip text) e ∙ strip_is text after)

-- parts and then parts
pub parts_then : (ps qs : List Part) (bytes mid : List ℕ) → parts_left ps bytes ≡ Some mid → parts_left (ps ++ qs) bytes ≡ parts_left qs mid
parts_then ps qs bytes mid e = parts_append ps qs bytes ∙ ap (option_and_then (parts_left qs)) e

-- parts that don't stand there
pub parts_stop : (ps qs : List Part) (bytes : List ℕ) → parts_left ps bytes ≡ None → parts_left (ps ++ qs) bytes ≡ None
parts_stop ps qs bytes e = parts_append ps qs bytes ∙ ap (option_and_then (parts_left qs)) e

-- ---- headers

-- no sizes, no header
pub no_sizes : (line : List ℕ) → parts_left (size_parts []) line ≡ None → (rule : Option (List ℕ)) → IsHeader line rule → ⊥
no_sizes line e = no_header line (ap has_more e) (parts_stop (size_parts []) rule_parts line e)

more_there : (after : List ℕ) → eqb (length after) 0 ≡ false → has_more (Some after) ≡ true
more_there [] e = absurd cc
more_there (b ∷ bs) e = refl

-- after the sizes stands something else
pub no_rule_name : (line after : List ℕ) → parts_left (size_parts []) line ≡ Some after → eqb (length after) 0 ≡ false → parts_left rule_parts after ≡ None → (rule : Option (List ℕ)) → IsHeader line rule → ⊥
no_rule_name line after e some n = no_header line (ap has_more e ∙ more_there after some) (parts_then (size_parts []) rule_parts line after e ∙ n)

-- after the sizes stands nothing
pub sizes_alone : (line after : List ℕ) → parts_left (size_parts []) line ≡ Some after → eqb (length after) 0 ≡ true → IsHeader line None
sizes_alone line after e none = inl (spaced_found (size_parts []) line (e ∙ ap Some (nil_from_length after (eqb-true (length after) 0 none))))

-- what parts leave is a part of the line
left_is_line : (ps : List Part) (line more : List ℕ) → IsLine line → parts_left ps line ≡ Some more → IsLine more
left_is_line ps line more l e =
    let f = parts_found ps line more e in
    every_right (λ b. not (is_line_end b)) f.0 more (ap (list_all (λ b. not (is_line_end b))) (sym f.2) ∙ l)

-- and begins with no blank
left_is_clear : (ps : List Part) (bytes more : List ℕ) → parts_left ps bytes ≡ Some more → is_end_or (λ b. not (is_blank b)) more ≡ true
left_is_clear [] bytes more e = ap (is_end_or (λ b. not (is_blank b))) (sym (same_Some (rest is_blank bytes) more e)) ∙ rest_ends is_blank bytes
left_is_clear (p ∷ ps) bytes more e =
    let step = then_some_of (parts_left ps) (part_left p (rest is_blank bytes)) more e in
    left_is_clear ps step.0 more step.2

-- what begins neither with a blank nor with an LF, nor with a word's byte, is nothing
no_word_byte : (text : List ℕ) → is_end_or (λ b. not (is_blank b)) text ≡ true → IsLine text → length (front is_word_byte text) ≡ 0 → text ≡ []
no_word_byte [] h l e = refl
no_word_byte (b ∷ bs) h l e =
    let line = and_parts (not (is_line_end b)) (list_all (λ b. not (is_line_end b)) bs) l in
    let test : is_word_byte b ≡ true = and_from (not (is_blank b)) (not (is_line_end b)) h line.0 in
    let some : length (b ∷ front is_word_byte bs) ≡ 0 = rw test at e in
    absurd (omega arith)

module _ (line after text : List ℕ) (l : IsLine line) (sizes : parts_left (size_parts []) line ≡ Some after) (named : parts_left rule_parts after ≡ Some text) where
  all_left : parts_left (size_parts rule_parts) line ≡ Some text
  all_left = parts_then (size_parts []) rule_parts line after sizes ∙ named

  text_is_line : IsLine text
  text_is_line = left_is_line (size_parts rule_parts) line text l all_left

  -- `rule =` with nothing after it
  pub rule_missing : eqb (length (front is_word_byte text)) 0 ≡ true → IsHeader line None
  rule_missing none =
      let empty = no_word_byte text (left_is_clear rule_parts after text named) text_is_line (eqb-true _ _ none) in
      inr (spaced_found (size_parts rule_parts) line (all_left ∙ ap Some empty))

  -- `rule =` with a word after it
  pub rule_there : eqb (length (front is_word_byte text)) 0 ≡ false → IsHeader line (Some (front is_word_byte text))
  rule_there some =
      let ne = eqb-false (length (front is_word_byte text)) 0 some in
      let long : 0 < length (front is_word_byte text) = omega arith in
      header_found line (front is_word_byte text) (rest is_word_byte text) (all_left ∙ ap Some (sym (front_then_rest is_word_byte text)))
      (word_from (front is_word_byte text) long (every_front is_word_byte text))
      (ends_by_blank (rest is_word_byte text) (every_rest is_word_byte (λ b. not (is_line_end b)) text text_is_line) (rest_ends is_word_byte text))

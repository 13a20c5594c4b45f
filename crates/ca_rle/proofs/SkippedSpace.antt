-- White space that is skipped line by line: blanks, line ends, and the rest of a line whose first byte that is no blank is `#`.
use Rattle.std.proofs.Common.{◌≡◌, ℕ, ◌≤◌, Bool, true, false, not, ◌==◌, nat_eq, List, [], ◌∷◌, length, inl, inr, refl, sym, ap, ◌∙◌, arith}
use Rattle.std.specs.List.{starts_with}
use Rattle.std.proofs.lemmas.Bool.{cases_Bool}
use Rattle.std.proofs.lemmas.Bool.Decides.{nat_tests}
use Rattle.ca_plane.specs.Prelude.{is_blank, is_line_end, is_end_or, rest}
use Rattle.ca_plane.proofs.Fronts.{rest_ends, front_length}
use Rattle.ca_rle.specs.Prelude.{Place, AtStart, InLine, InComment, after_white}

-- no blank ends a line
blank_no_end : (b : ℕ) → is_blank b ≡ true → is_line_end b ≡ false
blank_no_end b h = grind (arith, nat_tests)

-- the rest begins where the test first fails
rest_here : (test : ℕ → Bool) (b : ℕ) (bs : List ℕ) → test b ≡ false → rest test (b ∷ bs) ≡ b ∷ bs
rest_here test b bs e = rw e refl

-- blanks are skipped where one is
blanks_skipped : (place : Place) → ((b : ℕ) (bs : List ℕ) → is_blank b ≡ true → after_white place (b ∷ bs) ≡ after_white place bs) → (bytes : List ℕ) → after_white place bytes ≡ after_white place (rest is_blank bytes)
blanks_skipped place step [] = refl
blanks_skipped place step (b ∷ bs) =
    let more = blanks_skipped place step bs in
    elim (cases_Bool (is_blank b)) [
      | inl e ↦ step b bs e ∙ rw e more
      | inr e ↦ ap (after_white place) (sym (rest_here is_blank b bs e))
    ]

-- so they are at a line's start
pub start_blanks : (bytes : List ℕ) → after_white AtStart bytes ≡ after_white AtStart (rest is_blank bytes)
start_blanks bytes = blanks_skipped AtStart (λ b bs e. rw (e, blank_no_end b e) refl) bytes

-- and elsewhere in a line
pub line_blanks : (bytes : List ℕ) → after_white InLine bytes ≡ after_white InLine (rest is_blank bytes)
line_blanks bytes = blanks_skipped InLine (λ b bs e. rw (e, blank_no_end b e) refl) bytes

-- a comment is skipped up to its line's end
comment_line : (bytes : List ℕ) → after_white InComment bytes ≡ after_white InLine (rest (λ b. not (is_line_end b)) bytes)
comment_line [] = refl
comment_line (b ∷ bs) =
    let more = comment_line bs in
    elim (cases_Bool (is_line_end b)) [
      | inl e ↦
          let here : after_white InComment (b ∷ bs) ≡ after_white InLine (b ∷ bs) = rw e refl in
          here ∙ ap (after_white InLine) (sym (rest_here (λ b. not (is_line_end b)) b bs (ap not e)))
      | inr e ↦ rw e more
    ]

-- a line whose first byte is `#` is a comment
hash_line : (bytes : List ℕ) → starts_with nat_eq bytes (35 ∷ []) ≡ true → after_white AtStart bytes ≡ after_white InLine (rest (λ b. not (is_line_end b)) bytes)
hash_line [] h = absurd cc
hash_line (b ∷ bs) h =
    let hash : b ≡ 35 = grind (arith, nat_tests) in
    rw hash (comment_line bs)

-- one whose first byte is no blank and no `#` is read on
other_line : (bytes : List ℕ) → is_end_or (λ b. not (is_blank b)) bytes ≡ true → starts_with nat_eq bytes (35 ∷ []) ≡ false → after_white AtStart bytes ≡ after_white InLine bytes
other_line [] h k = refl
other_line (b ∷ bs) h k =
    let blank : is_blank b ≡ false = grind (arith, nat_tests) in
    let hash : (b == 35) ≡ false = grind (arith, nat_tests) in
    elim (cases_Bool (is_line_end b)) [
      | inl e ↦ rw e refl
      | inr e ↦ rw (e, blank, hash) refl
    ]

-- what stands after a line's blanks is read on, if it is no comment
pub line_start : (bytes after : List ℕ) → after ≡ rest is_blank bytes → starts_with nat_eq after (35 ∷ []) ≡ false → after_white AtStart bytes ≡ after_white InLine after
line_start bytes after e h =
    start_blanks bytes ∙ ap (after_white AtStart) (sym e) ∙ other_line after (ap (is_end_or (λ b. not (is_blank b))) e ∙ rest_ends is_blank bytes) h

-- and a comment is skipped whole
pub comment_start : (bytes after end : List ℕ) → after ≡ rest is_blank bytes → starts_with nat_eq after (35 ∷ []) ≡ true → end ≡ rest (λ b. not (is_line_end b)) after → after_white AtStart bytes ≡ after_white InLine end
comment_start bytes after end e h f = start_blanks bytes ∙ ap (after_white AtStart) (sym e) ∙ hash_line after h ∙ ap (after_white InLine) (sym f)

-- no blank stands where a line ends
pub no_blank_at_end : (bytes : List ℕ) → is_end_or (λ b. not (is_blank b)) (rest (λ b. not (is_line_end b)) bytes) ≡ true
no_blank_at_end bytes = at_end (rest (λ b. not (is_line_end b)) bytes) (rest_ends (λ b. not (is_line_end b)) bytes)
  where
    at_end : (after : List ℕ) → is_end_or (λ b. not (not (is_line_end b))) after ≡ true → is_end_or (λ b. not (is_blank b)) after ≡ true
    at_end [] h = refl
    at_end (b ∷ bs) h = grind (arith, nat_tests)

-- the rest has no more bytes
pub rest_length : (test : ℕ → Bool) (bytes : List ℕ) → length (rest test bytes) ≤ length bytes
rest_length test bytes = omega (arith, front_length test bytes)

-- The lines of a text and the words of a line, one at a time: for readers.
use Rattle.std.proofs.Common.{◌≡◌, ◌≢◌, ℕ, true, false, not, List, [], ◌∷◌, ◌++◌, refl, ap, sym, ◌∙◌, inl, inr}
use Rattle.std.specs.List.{list_all}
use Rattle.std.proofs.lemmas.Bool.{and_parts, and_cases, both_ways, not-true, not-false, eqb-true, false≢true}
use Rattle.std.proofs.lemmas.List.{append-nil}
use Rattle.ca_plane.specs.Prelude.{Every, front, rest, is_end_or, is_line_end, is_blank, is_word_byte, IsWord, with_front, lines_of, words_of}
use Rattle.ca_plane.proofs.Fronts.{front_then_rest, every_front, every_wider, rest_ends}

-- a line, its LF, and more lines
pub lines_ahead : (line more : List ℕ) → Every (λ b. not (is_line_end b)) line → lines_of (line ++ 10 ∷ more) ≡ line ∷ lines_of more
lines_ahead [] more h = refl
lines_ahead (b ∷ bs) more h =
    let parts = and_parts (not (is_line_end b)) (list_all (λ b. not (is_line_end b)) bs) h in
    rw (not-true (is_line_end b) parts.0) (ap (with_front b) (lines_ahead bs more parts.1))

-- a last line that has no LF, by its first byte and the others
pub lines_last : (b : ℕ) (bs : List ℕ) → Every (λ b. not (is_line_end b)) (b ∷ bs) → lines_of (b ∷ bs) ≡ (b ∷ bs) ∷ []
lines_last b [] h =
    let parts = and_parts (not (is_line_end b)) true h in
    rw (not-true (is_line_end b) parts.0) refl
lines_last b (c ∷ bs) h =
    let parts = and_parts (not (is_line_end b)) (list_all (λ b. not (is_line_end b)) (c ∷ bs)) h in
    rw (not-true (is_line_end b) parts.0) (ap (with_front b) (lines_last c bs parts.1))

-- a last line that has no LF: any but an empty one
pub lines_alone : (line : List ℕ) → line ≢ [] → Every (λ b. not (is_line_end b)) line → lines_of line ≡ line ∷ []
lines_alone [] ne h = absurd (ne refl)
lines_alone (b ∷ bs) ne h = lines_last b bs h

-- the first line of bytes where it has an LF, and the lines after that
pub lines_at_end : (bytes more : List ℕ) → rest (λ b. not (is_line_end b)) bytes ≡ 10 ∷ more → lines_of bytes ≡ front (λ b. not (is_line_end b)) bytes ∷ lines_of more
lines_at_end bytes more e =
    let line = front (λ b. not (is_line_end b)) bytes in
    let whole : line ++ 10 ∷ more ≡ bytes = ap (λ l. line ++ l) (sym e) ∙ front_then_rest (λ b. not (is_line_end b)) bytes in
    ap lines_of (sym whole) ∙ lines_ahead line more (every_front (λ b. not (is_line_end b)) bytes)

-- the only line of bytes where it has no LF
pub lines_at_last : (bytes : List ℕ) → bytes ≢ [] → rest (λ b. not (is_line_end b)) bytes ≡ [] → lines_of bytes ≡ bytes ∷ []
lines_at_last bytes ne e =
    let line = front (λ b. not (is_line_end b)) bytes in
    let whole : line ≡ bytes = sym (append-nil line) ∙ ap (λ l. line ++ l) (sym e) ∙ front_then_rest (λ b. not (is_line_end b)) bytes in
    lines_alone bytes ne (ap (list_all (λ b. not (is_line_end b))) (sym whole) ∙ every_front (λ b. not (is_line_end b)) bytes)

-- what follows a line's bytes begins with LF
pub line_ends_by_lf : (b : ℕ) (bytes more : List ℕ) → rest (λ b. not (is_line_end b)) bytes ≡ b ∷ more → b ≡ 10
line_ends_by_lf b bytes more e =
    let ends : not (not (is_line_end b)) ≡ true = ap (is_end_or (λ c. not (not (is_line_end c)))) (sym e) ∙ rest_ends (λ b. not (is_line_end b)) bytes in
    eqb-true b 10 (not-false (is_line_end b) (not-true (not (is_line_end b)) ends))

-- blanks before words
pub words_behind_blanks : (blanks more : List ℕ) → Every is_blank blanks → words_of (blanks ++ more) ≡ words_of more
words_behind_blanks [] more h = refl
words_behind_blanks (b ∷ bs) more h =
    let parts = and_parts (is_blank b) (list_all is_blank bs) h in
    rw parts.0 (words_behind_blanks bs more parts.1)

-- the last byte of a word
word_end : (b : ℕ) (more : List ℕ) → is_blank b ≡ false → is_end_or is_blank more ≡ true → words_of (b ∷ more) ≡ (b ∷ []) ∷ words_of more
word_end b more h e = rw (h, e) refl

-- any other byte of a word
word_step : (b : ℕ) (more : List ℕ) → is_blank b ≡ false → is_end_or is_blank more ≡ false → words_of (b ∷ more) ≡ with_front b (words_of more)
word_step b more h e = rw (h, e) refl

-- a longest run of bytes that are no blanks, by its first byte and the others
pub words_of_run : (b : ℕ) (bs more : List ℕ) → Every (λ b. not (is_blank b)) (b ∷ bs) → is_end_or is_blank more ≡ true → words_of ((b ∷ bs) ++ more) ≡ (b ∷ bs) ∷ words_of more
words_of_run b [] more h e =
    let parts = and_parts (not (is_blank b)) true h in
    word_end b more (not-true (is_blank b) parts.0) e
words_of_run b (c ∷ bs) more h e =
    let parts = and_parts (not (is_blank b)) (list_all (λ b. not (is_blank b)) (c ∷ bs)) h in
    let next = and_parts (not (is_blank c)) (list_all (λ b. not (is_blank b)) bs) parts.1 in
    word_step b (c ∷ bs ++ more) (not-true (is_blank b) parts.0) (not-true (is_blank c) next.0) ∙ ap (with_front b) (words_of_run c bs more parts.1 e)

-- a word, and after it nothing or a blank
pub words_ahead : (word more : List ℕ) → IsWord word → is_end_or is_blank more ≡ true → words_of (word ++ more) ≡ word ∷ words_of more
words_ahead [] more h e = absurd (false≢true h)
words_ahead (b ∷ bs) more h e =
    let no_blanks = every_wider is_word_byte (λ b. not (is_blank b)) (λ c t. (and_parts (not (is_blank c)) (not (is_line_end c)) t).0) (b ∷ bs) h in
    words_of_run b bs more no_blanks e

-- blanks, a word, and after it nothing or a blank
pub words_next : (blanks word more : List ℕ) → Every is_blank blanks → IsWord word → is_end_or is_blank more ≡ true → words_of (blanks ++ (word ++ more)) ≡ word ∷ words_of more
words_next blanks word more h w e = words_behind_blanks blanks (word ++ more) h ∙ words_ahead word more w e

-- in a line, what can't go on a word is a blank
pub ends_by_blank : (more : List ℕ) → Every (λ b. not (is_line_end b)) more → is_end_or (λ b. not (is_word_byte b)) more ≡ true → is_end_or is_blank more ≡ true
ends_by_blank [] h e = refl
ends_by_blank (b ∷ bs) h e =
    let parts = and_parts (not (is_line_end b)) (list_all (λ b. not (is_line_end b)) bs) h in
    let fails = and_cases (not (is_blank b)) (not (is_line_end b)) (not-true (is_word_byte b) e) in
    elim fails [ inl blank ↦ not-false (is_blank b) blank | inr lf ↦ absurd (both_ways (not (is_line_end b)) lf parts.0) ]

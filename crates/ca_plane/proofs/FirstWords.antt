-- The first line of bytes, and the first word of a line, as they are split off.
use Rattle.std.proofs.Common.{◌≡◌, ◌≢◌, ℕ, suc, ◌<◌, Bool, true, not, List, [], ◌∷◌, ◌++◌, length, refl, sym, ap, ◌∙◌, arith}
use Rattle.std.proofs.lemmas.Bool.{both_ways, not-true}
use Rattle.std.proofs.lemmas.List.{append-nil}
use Rattle.ca_plane.specs.Prelude.{Every, front, rest, is_end_or, is_line_end, is_blank, is_word_byte, IsWord, lines_of, words_of}
use Rattle.ca_plane.proofs.Fronts.{front_then_rest, every_front, every_rest, rest_ends, front_length}
use Rattle.ca_plane.proofs.Lines.{lines_at_end, lines_at_last, line_ends_by_lf, words_behind_blanks, words_ahead, ends_by_blank}

-- the line that ends before more bytes
pub line_before : (bytes : List ℕ) (b : ℕ) (more : List ℕ) → rest (λ b. not (is_line_end b)) bytes ≡ b ∷ more → lines_of bytes ≡ front (λ b. not (is_line_end b)) bytes ∷ lines_of more
line_before bytes b more e = lines_at_end bytes more (e ∙ ap (λ c. c ∷ more) (line_ends_by_lf b bytes more e))

-- the line, its LF, and more bytes
pub line_then_more : (bytes : List ℕ) (b : ℕ) (more : List ℕ) → rest (λ b. not (is_line_end b)) bytes ≡ b ∷ more → bytes ≡ front (λ b. not (is_line_end b)) bytes ++ 10 ∷ more
line_then_more bytes b more e =
    let line = front (λ b. not (is_line_end b)) bytes in
    sym (front_then_rest (λ b. not (is_line_end b)) bytes) ∙ ap (λ l. line ++ l) (e ∙ ap (λ c. c ∷ more) (line_ends_by_lf b bytes more e))

-- the line alone
pub line_then_none : (bytes : List ℕ) → rest (λ b. not (is_line_end b)) bytes ≡ [] → bytes ≡ front (λ b. not (is_line_end b)) bytes
line_then_none bytes e =
    let line = front (λ b. not (is_line_end b)) bytes in
    sym (front_then_rest (λ b. not (is_line_end b)) bytes) ∙ ap (λ l. line ++ l) e ∙ append-nil line

-- the bytes after a line are fewer
pub fewer_behind_line : (test : ℕ → Bool) (bytes : List ℕ) (b : ℕ) (more : List ℕ) → rest test bytes ≡ b ∷ more → length more < length bytes
fewer_behind_line test bytes b more e =
    let whole = front_length test bytes in
    let behind : length (rest test bytes) ≡ suc (length more) = ap length e in
    omega arith

-- the only line
pub line_alone : (bytes : List ℕ) → 0 < length bytes → rest (λ b. not (is_line_end b)) bytes ≡ [] → lines_of bytes ≡ front (λ b. not (is_line_end b)) bytes ∷ []
line_alone bytes some e =
    let ne : bytes ≢ [] = λ none. let h = ap length none in omega arith in
    lines_at_last bytes ne e ∙ ap (λ l. l ∷ []) (line_then_none bytes e)

-- what begins a list both as a test says and as it denies is no byte
no_byte : (test : ℕ → Bool) (bytes : List ℕ) → is_end_or test bytes ≡ true → is_end_or (λ b. not (test b)) bytes ≡ true → bytes ≡ []
no_byte test [] h e = refl
no_byte test (b ∷ bs) h e = absurd (both_ways (test b) (not-true (test b) e) h)

-- bytes that all may be in a word, one at least, are one
pub word_from : (word : List ℕ) → 0 < length word → Every is_word_byte word → IsWord word
word_from [] some h = absurd (omega arith)
word_from (b ∷ bs) some h = h

module _ (bytes : List ℕ) (line : Every (λ b. not (is_line_end b)) bytes) where
  -- the bytes after blanks have the words
  words_behind : words_of bytes ≡ words_of (rest is_blank bytes)
  words_behind =
      ap words_of (sym (front_then_rest is_blank bytes)) ∙ words_behind_blanks (front is_blank bytes) (rest is_blank bytes) (every_front is_blank bytes)

  -- and are a line's
  line_behind : Every (λ b. not (is_line_end b)) (rest is_blank bytes)
  line_behind = every_rest is_blank (λ b. not (is_line_end b)) bytes line

  -- the bytes after blanks and a word are a line's too
  pub line_after : Every (λ b. not (is_line_end b)) (rest is_word_byte (rest is_blank bytes))
  line_after = every_rest is_word_byte (λ b. not (is_line_end b)) (rest is_blank bytes) line_behind

  -- what follows a word is nothing or a blank
  blank_after : is_end_or is_blank (rest is_word_byte (rest is_blank bytes)) ≡ true
  blank_after = ends_by_blank (rest is_word_byte (rest is_blank bytes)) line_after (rest_ends is_word_byte (rest is_blank bytes))

  -- the first word
  pub word_before : 0 < length (front is_word_byte (rest is_blank bytes))
      → words_of bytes ≡ front is_word_byte (rest is_blank bytes) ∷ words_of (rest is_word_byte (rest is_blank bytes))
  word_before some =
      let word = front is_word_byte (rest is_blank bytes) in
      let more = rest is_word_byte (rest is_blank bytes) in
      words_behind ∙ ap words_of (sym (front_then_rest is_word_byte (rest is_blank bytes)))
      ∙ words_ahead word more (word_from word some (every_front is_word_byte (rest is_blank bytes))) blank_after

  -- no word
  pub no_word : front is_word_byte (rest is_blank bytes) ≡ [] → words_of bytes ≡ []
  no_word none =
      let more = rest is_word_byte (rest is_blank bytes) in
      let same : more ≡ rest is_blank bytes = ap (λ l. l ++ more) (sym none) ∙ front_then_rest is_word_byte (rest is_blank bytes) in
      let empty : rest is_blank bytes ≡ [] = no_byte is_blank (rest is_blank bytes) (ap (is_end_or is_blank) (sym same) ∙ blank_after) (rest_ends is_blank bytes) in
      words_behind ∙ ap words_of empty

-- the bytes after a word are fewer
pub fewer_behind_word : (bytes : List ℕ) → 0 < length (front is_word_byte (rest is_blank bytes)) → length (rest is_word_byte (rest is_blank bytes)) < length bytes
fewer_behind_word bytes some = omega (arith, front_length is_blank bytes, front_length is_word_byte (rest is_blank bytes))

-- Names and numbers are words of a claim text.
use Rattle.std.proofs.Common.{◌≡◌, ℕ, zero, suc, ◌+◌, ◌/◌, ◌%◌, ◌<◌, ◌==◌, Bool, true, false, List, [], ◌∷◌, ◌++◌, ℤ, pos, negsuc, map, nat_eq, nat_lt, codes, decimal, refl, ap, sym, ◌∙◌, inl, inr, subst, arith}
use Rattle.std.specs.Fmt.{digits, digits_onto, digit_glyph, signed_decimal}
use Rattle.std.specs.List.{list_all}
use Rattle.std.proofs.lemmas.Bool.{and_parts, and_from, cases_Bool, lt-ltb, false≢true}
use Rattle.std.proofs.lemmas.Bool.Decides.{nat_tests}
use Rattle.ca_plane.specs.Prelude.{Every, is_word_byte, IsWord}
use Rattle.ca_plane.proofs.Fronts.{every_append}
use Rattle.ca_identify_lines.specs.Prelude.{is_word, is_claim_path, name_byte, with_first_byte, without_ending, last_component, claim_name, numbered_name, IsFreeName}
use Rattle.ca_report.specs.Prelude.{spelled_byte, is_control, is_control_pair, escaped_byte, escaped}
use Rattle.ca_identify_lines.proofs.Saying.{is_inner}

-- what the test says is a word
pub word_by_test : (bytes : List ℕ) → is_word bytes ≡ true → IsWord bytes
word_by_test [] h = h
word_by_test (b ∷ bs) h = h

-- so is a path that a claim text can name
pub path_word : (path : List ℕ) → is_claim_path path ≡ true → IsWord path
path_word path h = word_by_test path (and_parts (is_word path) _ h).0

-- a byte of a name
name_byte_fits : (b : ℕ) → is_word_byte (name_byte b) ≡ true
name_byte_fits b = elim (cases_Bool (is_word_byte b)) [ inl e ↦ rw e e | inr e ↦ rw e refl ]

name_bytes_fit : (bs : List ℕ) → Every is_word_byte (map name_byte bs)
name_bytes_fit [] = refl
name_bytes_fit (b ∷ bs) = and_from _ _ (name_byte_fits b) (name_bytes_fit bs)

-- a first byte is no `#`
first_fits : (bs : List ℕ) → Every is_word_byte bs → IsWord (with_first_byte bs)
first_fits [] h = refl
first_fits (b ∷ bs) h =
    let parts = and_parts (is_word_byte b) (list_all is_word_byte bs) h in
    elim (cases_Bool (nat_eq b 35)) [ inl e ↦ rw e parts.1 | inr e ↦ rw e h ]

pub claim_name_word : (path : List ℕ) → IsWord (claim_name path)
claim_name_word path = first_fits (map name_byte (without_ending (last_component path))) (name_bytes_fit (without_ending (last_component path)))

-- a digit in its place
glyph_is : (d : ℕ) → d < 10 → digit_glyph false d ≡ 48 + d
glyph_is d small = rw (lt-ltb d 10 small) refl

-- the digits of a number pass a test that each digit passes
module _ (test : ℕ → Bool) (each : (d : ℕ) → d < 10 → test (48 + d) ≡ true) where
  last_passes : (n : ℕ) → test (digit_glyph false (n % 10)) ≡ true
  last_passes n = ap test (glyph_is (n % 10) (omega arith)) ∙ each (n % 10) (omega arith)

  onto_passes : (k n : ℕ) (acc : List ℕ) → Every test acc → Every test (digits_onto k 10 false n acc)
  onto_passes zero n acc h = h
  onto_passes (suc k) n acc h =
      let more = and_from _ _ (last_passes n) h in
      elim (cases_Bool (n / 10 == 0)) [ inl e ↦ rw e more | inr e ↦ rw e (onto_passes k (n / 10) (digit_glyph false (n % 10) ∷ acc) more) ]

  pub digits_pass : (n : ℕ) → Every test (decimal n)
  unfolding digits
  digits_pass n = onto_passes 64 n [] refl

digit_fits : (d : ℕ) → d < 10 → is_word_byte (48 + d) ≡ true
digit_fits d small = grind (arith, nat_tests)

-- a number can be in a word
pub decimal_fits : (n : ℕ) → Every is_word_byte (decimal n)
decimal_fits n = digits_pass is_word_byte digit_fits n

digit_inner : (d : ℕ) → d < 10 → is_inner (48 + d) ≡ true
digit_inner d small = grind (arith, nat_tests)

-- a number is on one line
pub decimal_inner : (n : ℕ) → Every is_inner (decimal n)
decimal_inner n = digits_pass is_inner digit_inner n

-- so is one with its sign
pub signed_inner : (n : ℤ) → Every is_inner (signed_decimal n)
signed_inner (pos n) = decimal_inner n
signed_inner (negsuc n) = decimal_inner (suc n)

-- a word with more bytes after it is a word
pub word_append : (word more : List ℕ) → IsWord word → Every is_word_byte more → IsWord (word ++ more)
word_append [] more h m = absurd (false≢true h)
word_append (b ∷ bs) more h m = every_append is_word_byte (b ∷ bs) more h m

-- a name with a number after it
numbered_word : (name : List ℕ) (place : ℕ) → IsWord name → IsWord (numbered_name name place)
numbered_word name place h = elim (cases_Bool (nat_eq place 0)) [
  | inl e ↦ rw e h
  | inr e ↦ rw e (word_append name (codes "-" ++ decimal (place + 1)) h (decimal_fits (place + 1)))
]

-- so a name that is free is a word
pub free_word : (taken : List (List ℕ)) (path name : List ℕ) → IsFreeName taken (claim_name path) name → IsWord name
free_word taken path name free = subst IsWord (sym free.spelled) (numbered_word (claim_name path) free.place (claim_name_word path))

-- a hexadecimal digit is no LF
glyph_inner : (d : ℕ) → is_inner (digit_glyph false d) ≡ true
glyph_inner d = elim (cases_Bool (nat_lt d 10)) [ inl e ↦ rw e (grind (arith, nat_tests)) | inr e ↦ rw e (grind (arith, nat_tests)) ]

spelled_inner : (b : ℕ) → Every is_inner (spelled_byte b)
spelled_inner b = and_from _ _ refl (and_from _ _ refl (and_from _ _ (glyph_inner (b / 16)) (and_from _ _ (glyph_inner (b % 16)) refl)))

escaped_byte_inner : (b : ℕ) → Every is_inner (escaped_byte b)
escaped_byte_inner b = elim (cases_Bool (is_control b)) [
  | inl e ↦ rw e (spelled_inner b)
  | inr e ↦ rw e (grind (arith, nat_tests))
]

-- a text whose control characters are spelled out is on one line
pub escaped_inner : (text : List ℕ) → Every is_inner (escaped text)
escaped_inner [] = refl
escaped_inner (b ∷ []) = escaped_byte_inner b
escaped_inner (b ∷ c ∷ bs) = elim (cases_Bool (is_control_pair b c)) [
  | inl e ↦ rw e (every_append is_inner (spelled_byte b) (spelled_byte c ++ escaped bs) (spelled_inner b)
      (every_append is_inner (spelled_byte c) (escaped bs) (spelled_inner c) (escaped_inner bs)))
  | inr e ↦ rw e (every_append is_inner (escaped_byte b) (escaped (c ∷ bs)) (escaped_byte_inner b) (escaped_inner (c ∷ bs)))
]

-- Bytes, lines, words and numbers, as every format of the project reads them (our own choice where Golly Help is silent).
use Rattle.std.specs.Prelude.{◌≡◌, ℕ, ◌+◌, ◌-◌, ◌*◌, ◌^◌, min, ℤ, pos, neg_ℤ, List, [], ◌∷◌, ◌++◌, Bool, true, false, not, ◌&&◌, ◌||◌, ◌==◌, nat_le, IsTrue, if◌then◌else◌, ◌⊎◌, codes, slice_index}
use Prim.Native.String.{String}
use Rattle.std.specs.List.{flat_map, list_all}
use Rattle.std.specs.Int.{w64, saturate_signed}

-- the number of the first of some characters: `letter "B"` is 66
abbrev pub letter : String → ℕ
letter text = slice_index (codes text) 0

-- a blank is a space, a tab or a CR
abbrev pub is_blank : ℕ → Bool
is_blank b = (b == 32) || (b == 9) || (b == 13)

-- LF ends a line
abbrev pub is_line_end : ℕ → Bool
is_line_end b = b == 10

-- `0` to `9`
abbrev pub is_digit : ℕ → Bool
is_digit b = nat_le (letter "0") b && nat_le b (letter "9")

-- each byte passes the test
abbrev pub Every : (ℕ → Bool) → List ℕ → Type 0
Every test bytes = IsTrue (list_all test bytes)

-- the bytes up to the first that fails the test
abbrev pub front : (ℕ → Bool) → List ℕ → List ℕ
front test [] = []
front test (b ∷ bs) = if test b then b ∷ front test bs else []

-- the bytes from the first that fails the test onwards
abbrev pub rest : (ℕ → Bool) → List ℕ → List ℕ
rest test [] = []
rest test (b ∷ bs) = if test b then rest test bs else b ∷ bs

-- the bytes are none, or the first of them passes the test
abbrev pub is_end_or : (ℕ → Bool) → List ℕ → Bool
is_end_or test [] = true
is_end_or test (b ∷ bs) = test b

-- a byte put in front of the first of these lists
abbrev pub with_front : ℕ → List (List ℕ) → List (List ℕ)
with_front b [] = (b ∷ []) ∷ []
with_front b (l ∷ ls) = (b ∷ l) ∷ ls

-- the lines of a text, each without its LF; after a last LF there is no further line
abbrev pub lines_of : List ℕ → List (List ℕ)
lines_of [] = []
lines_of (b ∷ bs) = if is_line_end b then [] ∷ lines_of bs else with_front b (lines_of bs)

-- the text of lines, each ended by LF
abbrev pub text_of : List (List ℕ) → List ℕ
text_of lines = flat_map (λ line. line ++ 10 ∷ []) lines

-- a line without the one CR that may be before its end
abbrev pub without_cr : List ℕ → List ℕ
without_cr [] = []
without_cr (b ∷ []) = if b == 13 then [] else b ∷ []
without_cr (b ∷ c ∷ bs) = b ∷ without_cr (c ∷ bs)

-- bytes without the blanks that they end with
abbrev pub without_last_blanks : List ℕ → List ℕ
without_last_blanks [] = []
without_last_blanks (b ∷ bs) = if list_all is_blank (b ∷ bs) then [] else b ∷ without_last_blanks bs

-- bytes without the blanks at both ends
abbrev pub trimmed : List ℕ → List ℕ
trimmed bytes = without_last_blanks (rest is_blank bytes)

-- the words of a line: its longest runs of bytes that are no blanks
abbrev pub words_of : List ℕ → List (List ℕ)
words_of [] = []
words_of (b ∷ bs) = if is_blank b then words_of bs else (if is_end_or is_blank bs then (b ∷ []) ∷ words_of bs else with_front b (words_of bs))

-- a byte that may be in a word: no blank, and no LF
abbrev pub is_word_byte : ℕ → Bool
is_word_byte b = not (is_blank b) && not (is_line_end b)

-- a word: one or more bytes, none of them a blank or LF
abbrev pub IsWord : List ℕ → Type 0
IsWord [] = IsTrue false
IsWord (b ∷ bs) = Every is_word_byte (b ∷ bs)

-- one or more decimal digits, leading zeros allowed
abbrev pub AreDigits : List ℕ → Type 0
AreDigits [] = IsTrue false
AreDigits (d ∷ ds) = Every is_digit (d ∷ ds)

-- the number that digits write after those of n
abbrev pub value_from : ℕ → List ℕ → ℕ
value_from n [] = n
value_from n (d ∷ ds) = value_from (10 * n + (d - letter "0")) ds

-- the number that decimal digits write
abbrev pub value : List ℕ → ℕ
value ds = value_from 0 ds

-- digits, and an optional `-` before them
abbrev pub IsInteger : List ℕ → ℤ → Type 0
IsInteger bytes n =
    (AreDigits bytes × (n ≡ pos (value bytes)))
    ⊎ ((digits : List ℕ) × (bytes ≡ codes "-" ++ digits) × AreDigits digits × (n ≡ neg_ℤ (pos (value digits))))

-- the `u64` that is nearest to a number: the number itself, or the greatest `u64` where it is greater
abbrev pub nearest_u64 : ℕ → ℕ
nearest_u64 n = min n (2 ^ 64 - 1)

-- the `i64` that is nearest to an integer: the integer itself, where it is one
abbrev pub nearest_i64 : ℤ → ℤ
nearest_i64 n = saturate_signed w64 n

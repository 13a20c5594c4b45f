-- The codes of objects are apgcodes.
use Rattle.std.proofs.Common.{◌≡◌, ℕ, ◌+◌, ◌-◌, ◌<◌, ◌≤◌, ◌^◌, nat_lt, Bool, true, false, List, [], ◌∷◌, ◌++◌, length, map, None, Some, codes, decimal, refl, sym, ap, ap₂, subst, ◌∙◌, arith}
use Rattle.std.specs.Prelude.{◌==◌, if◌then◌else◌, option_and_then}
use Rattle.std.specs.List.{list_all, flat_map, join_with_byte}
use Rattle.std.proofs.lemmas.Bool.{and_parts, and_from, true≢false}
use Rattle.std.proofs.lemmas.Bool.Decides.{nat_tests}
use Rattle.std.proofs.lemmas.List.{append_assoc}
use Rattle.ca_plane.specs.Prelude.{letter, is_digit, is_word_byte, Every, AreDigits, front, rest, from_corner}
use Rattle.ca_plane.proofs.Decimals.{decimal_writes}
use Rattle.ca_plane.proofs.Fronts.{every_append, every_wider, front_append, rest_append}
use Rattle.ca_apgcode.specs.Prelude.{code_text, kind_letter, GridCells, cell, Step, digit, gap_text, step_text, IsRepresentation, IsCode}
use Rattle.ca_apgcode.specs.declared.object.ObjectKind.{ObjectKind}
use Rattle.ca_apgcode.specs.declared.object.ObjectKind.TheVariants.{StillLife, Oscillator, Spaceship}
use Rattle.ca_import.specs.declared.format.ImportFormat.TheVariants.{Apgcode}
use Rattle.ca_import.specs.Prelude.{after_mark, after_number, after_head, word_alone, representation_text, line_format, format_of, IsImport}

-- ---- the bytes of a representation may be in a word

large_fits : (b : ℕ) → 33 ≤ b → is_word_byte b ≡ true
large_fits b large = grind (arith, nat_tests, large)

either_fits : (b : Bool) (x y : ℕ) → is_word_byte x ≡ true → is_word_byte y ≡ true → is_word_byte (if b then x else y) ≡ true
either_fits true x y one other = one
either_fits false x y one other = other

digit_fits : (n : ℕ) → is_word_byte (digit n) ≡ true
digit_fits n = either_fits (nat_lt n 10) (48 + n) (97 + (n - 10)) (large_fits (48 + n) (omega arith)) (large_fits (97 + (n - 10)) (omega arith))

byte_fits : (b : ℕ) → is_word_byte b ≡ true → Every is_word_byte (b ∷ [])
byte_fits b fits = and_from _ _ fits refl

either_text : (b : Bool) (one other : List ℕ) → Every is_word_byte one → Every is_word_byte other → Every is_word_byte (if b then one else other)
either_text true one other fits also = fits
either_text false one other fits also = also

gap_fits : (gap : ℕ) → Every is_word_byte (gap_text gap)
gap_fits gap =
    let long = letter "y" ∷ digit (gap - 4) ∷ [] in
    let three = if gap == 3 then codes "x" else long in
    let two = if gap == 2 then codes "w" else three in
    let one = if gap == 1 then codes "0" else two in
    either_text (gap == 0) [] one refl (either_text (gap == 1) (codes "0") two refl (either_text (gap == 2) (codes "w") three refl
    (either_text (gap == 3) (codes "x") long refl (byte_fits (digit (gap - 4)) (digit_fits (gap - 4))))))

step_fits : (step : Step) → Every is_word_byte (step_text step)
step_fits step = every_append is_word_byte (gap_text step.gap) (digit step.column ∷ []) (gap_fits step.gap) (byte_fits (digit step.column) (digit_fits step.column))

steps_fit : (steps : List Step) → Every is_word_byte (flat_map step_text steps)
steps_fit [] = refl
steps_fit (s ∷ ss) = every_append is_word_byte (step_text s) (flat_map step_text ss) (step_fits s) (steps_fit ss)

strips_fit : (strips : List (List Step)) → Every is_word_byte (join_with_byte (letter "z") (map (flat_map step_text) strips))
strips_fit [] = refl
strips_fit (s ∷ []) = steps_fit s
strips_fit (s ∷ t ∷ ts) = every_append is_word_byte (flat_map step_text s) (letter "z" ∷ join_with_byte (letter "z") (map (flat_map step_text) (t ∷ ts))) (steps_fit s) (strips_fit (t ∷ ts))

representation_fits : (cells : ℕ → ℕ → ℕ) (height : ℕ) (text : List ℕ) → IsRepresentation cells height text → Every is_word_byte text
representation_fits cells height text is = subst (Every is_word_byte) (sym is.whole) (strips_fit is.strips)

-- ---- a word alone

front_all : (test : ℕ → Bool) (xs : List ℕ) → Every test xs → front test xs ≡ xs
front_all test [] h = refl
front_all test (x ∷ xs) h =
    let parts = and_parts (test x) (list_all test xs) h in
    rw parts.0 (ap (λ l. x ∷ l) (front_all test xs parts.1))

rest_none : (test : ℕ → Bool) (xs : List ℕ) → Every test xs → rest test xs ≡ []
rest_none test [] h = refl
rest_none test (x ∷ xs) h =
    let parts = and_parts (test x) (list_all test xs) h in
    rw parts.0 (rest_none test xs parts.1)

alone : (word : List ℕ) → Every is_word_byte word → word_alone word ≡ Some word
alone word fits = rw (rest_none is_word_byte word fits) (ap Some (front_all is_word_byte word fits))

-- ---- what follows its head

digits_fit : (ds : List ℕ) → Every is_digit ds → Every is_word_byte ds
digits_fit ds h = every_wider is_digit is_word_byte (λ b is. grind (arith, nat_tests, is)) ds h

some_test : (n : ℕ) → 0 < n → (n == 0) ≡ false
some_test n some = grind (arith, nat_tests, some)

number_by : (bytes digits text : List ℕ) → 0 < length digits → front is_digit bytes ≡ digits → rest is_digit bytes ≡ 95 ∷ text → after_number bytes ≡ Some text
number_by bytes digits text some are left =
    let test : (length (front is_digit bytes) == 0) ≡ false = ap (λ l. length l == 0) are ∙ some_test (length digits) some in
    rw test (ap after_mark left)

number_read : (ds text : List ℕ) → AreDigits ds → after_number ((ds ++ codes "_") ++ text) ≡ Some text
number_read [] text h = absurd (true≢false (sym h))
number_read (d ∷ ds) text h =
    ap after_number (append_assoc (d ∷ ds) (codes "_") text)
    ∙ number_by ((d ∷ ds) ++ (95 ∷ text)) (d ∷ ds) text (omega arith) (front_append is_digit (d ∷ ds) (95 ∷ text) h refl) (rest_append is_digit (d ∷ ds) (95 ∷ text) h refl)

every_digit : (ds : List ℕ) → AreDigits ds → Every is_digit ds
every_digit [] h = refl
every_digit (d ∷ ds) h = h

kind_fits : (kind : ObjectKind) → is_word_byte (kind_letter kind) ≡ true
kind_fits StillLife = refl
kind_fits Oscillator = refl
kind_fits Spaceship = refl

code_fits : (kind : ObjectKind) (ds text : List ℕ) → AreDigits ds → Every is_word_byte text → Every is_word_byte (letter "x" ∷ kind_letter kind ∷ ((ds ++ codes "_") ++ text))
code_fits kind ds text digits fits =
    and_from _ _ refl (and_from _ _ (kind_fits kind)
    (every_append is_word_byte (ds ++ codes "_") text (every_append is_word_byte ds (codes "_") (digits_fit ds (every_digit ds digits)) refl) fits))

head_read : (kind : ObjectKind) (ds text : List ℕ) → AreDigits ds → after_head (letter "x" ∷ kind_letter kind ∷ ((ds ++ codes "_") ++ text)) ≡ Some text
head_read StillLife ds text h = number_read ds text h
head_read Oscillator ds text h = number_read ds text h
head_read Spaceship ds text h = number_read ds text h

-- a code that is the whole text is read
code_read : (kind : ObjectKind) (number : ℕ) (text : List ℕ) → number < 2 ^ 64 → Every is_word_byte text → representation_text (code_text kind number (Some text)) ≡ Some text
code_read kind number text low fits =
    let digits = (decimal_writes number low).0 in
    let word = letter "x" ∷ kind_letter kind ∷ ((decimal number ++ codes "_") ++ text) in
    ap (option_and_then after_head) (alone word (code_fits kind (decimal number) text digits fits)) ∙ head_read kind (decimal number) text digits

-- ---- the whole text

no_lines : (kind : ObjectKind) (more : List ℕ) → line_format (letter "x" ∷ kind_letter kind ∷ more) ≡ None
no_lines StillLife more = refl
no_lines Oscillator more = refl
no_lines Spaceship more = refl

-- the code of cells is imported as these cells
pub code_imported : (kind : ObjectKind) (number : ℕ) (box : GridCells) (text : List ℕ) → number < 2 ^ 64 → IsCode box text → IsImport (code_text kind number (Some text)) (from_corner (cell box)) None
code_imported kind number box text low code =
    let read = code_read kind number text low (representation_fits (cell box) box.height text code.is_representation) in
    record {
      format = Apgcode;
      begins = ap₂ format_of (no_lines kind ((decimal number ++ codes "_") ++ text)) read;
      holds = record { text = text; box = box; text_is = read; is_code = code; cells_are = λ x y. refl; rule_is = refl };
    }

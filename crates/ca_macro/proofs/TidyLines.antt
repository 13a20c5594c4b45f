-- What the lines of a tidy text say.
use Rattle.std.proofs.Common.{◌≡◌, ℕ, ◌<◌, ◌^◌, Bool, true, false, not, List, [], ◌∷◌, ◌++◌, map, length, codes, decimal, refl, sym, ap, subst, ◌∙◌, arith, append_assoc, append-nil, length-append}
use Rattle.std.specs.List.{AllByRecursion, AllZip, flat_map, join_with_byte}
use Rattle.std.proofs.lemmas.Bool.{and_parts}
use Rattle.ca_plane.specs.Prelude.{Every, is_blank, is_line_end, is_word_byte, with_front, words_of, lines_of, IsWord, AreDigits}
use Rattle.ca_plane.proofs.Fronts.{every_append, every_wider, every_word_byte, digits_in_word}
use Rattle.ca_plane.proofs.FirstWords.{word_from}
use Rattle.ca_plane.proofs.Lines.{lines_ahead, words_ahead, words_next}
use Rattle.ca_macro.specs.Prelude.{Node, Leaf, Cells, Parts, leaf_mark, leaf_rows, MayFollow, Adds, Rule, Generation, IsNumber, MacrocellWordsSay, HasForm, numbers_text, node_text}
use Rattle.ca_plane.proofs.Decimals.{decimal_writes}

-- ---- lines and words

-- the bytes have no LF
abbrev pub IsLine : List ℕ → Type 0
IsLine bytes = Every (λ b. not (is_line_end b)) bytes

-- lines that are written each with its LF are read again
pub lines_read : (lines : List (List ℕ)) → AllByRecursion IsLine lines → lines_of (flat_map (λ line. line ++ 10 ∷ []) lines) ≡ lines
lines_read [] a = refl
lines_read (l ∷ ls) a =
    ap lines_of (append_assoc l (10 ∷ []) (flat_map (λ line. line ++ 10 ∷ []) ls)) ∙ lines_ahead l (flat_map (λ line. line ++ 10 ∷ []) ls) a.0 ∙ ap (λ xs. l ∷ xs) (lines_read ls a.1)

word_is_line : (bytes : List ℕ) → Every is_word_byte bytes → IsLine bytes
word_is_line bytes h = every_wider is_word_byte (λ b. not (is_line_end b)) (λ b t. (and_parts (not (is_blank b)) (not (is_line_end b)) t).1) bytes h

digits_are_word : (digits : List ℕ) → AreDigits digits → IsWord digits
digits_are_word [] h = absurd cc
digits_are_word (d ∷ ds) h = digits_in_word (d ∷ ds) h

one_word : (word : List ℕ) → IsWord word → words_of word ≡ word ∷ []
one_word word h = ap words_of (sym (append-nil word)) ∙ words_ahead word [] h refl

-- ---- numbers

number_words : (numbers : List ℕ) → AllByRecursion (λ n. n < 2 ^ 64) numbers → words_of (join_with_byte 32 (map decimal numbers)) ≡ map decimal numbers
number_words [] a = refl
number_words (n ∷ []) a = one_word (decimal n) (digits_are_word (decimal n) (decimal_writes n a.0).0)
number_words (n ∷ m ∷ ns) a =
    words_ahead (decimal n) (32 ∷ join_with_byte 32 (map decimal (m ∷ ns))) (digits_are_word (decimal n) (decimal_writes n a.0).0) refl ∙ ap (λ l. decimal n ∷ l) (number_words (m ∷ ns) a.1)

numbers_said : (numbers : List ℕ) → AllByRecursion (λ n. n < 2 ^ 64) numbers → AllZip IsNumber (map decimal numbers) numbers
numbers_said [] a = tt
numbers_said (n ∷ ns) a = (decimal_writes n a.0, numbers_said ns a.1)

pub numbers_say : (numbers : List ℕ) → AllByRecursion (λ n. n < 2 ^ 64) numbers → AllZip IsNumber (words_of (numbers_text numbers)) numbers
numbers_say numbers a = subst (λ l. AllZip IsNumber l numbers) (sym (number_words numbers a)) (numbers_said numbers a)

numbers_line : (numbers : List ℕ) → AllByRecursion (λ n. n < 2 ^ 64) numbers → IsLine (numbers_text numbers)
numbers_line [] a = refl
numbers_line (n ∷ []) a = word_is_line (decimal n) (digits_in_word (decimal n) (decimal_writes n a.0).0)
numbers_line (n ∷ m ∷ ns) a =
    every_append (λ b. not (is_line_end b)) (decimal n) (32 ∷ numbers_text (m ∷ ns)) (word_is_line (decimal n) (digits_in_word (decimal n) (decimal_writes n a.0).0)) (numbers_line (m ∷ ns) a.1)

-- ---- leaves

abbrev leaf_text : List (List Bool) → List ℕ
leaf_text rows = flat_map (λ row. map leaf_mark row ++ 36 ∷ []) rows

row_before : (row : List Bool) (more : List ℕ) → leaf_rows ((map leaf_mark row ++ 36 ∷ []) ++ more) ≡ map leaf_mark row ∷ leaf_rows more
row_before [] more = refl
row_before (true ∷ row) more = ap (with_front 42) (row_before row more)
row_before (false ∷ row) more = ap (with_front 46) (row_before row more)

rows_read : (rows : List (List Bool)) → leaf_rows (leaf_text rows) ≡ map (map leaf_mark) rows
rows_read [] = refl
rows_read (row ∷ rows) = row_before row (leaf_text rows) ∙ ap (λ l. map leaf_mark row ∷ l) (rows_read rows)

row_bytes : (row : List Bool) → Every is_word_byte (map leaf_mark row ++ 36 ∷ [])
row_bytes [] = refl
row_bytes (true ∷ row) = row_bytes row
row_bytes (false ∷ row) = row_bytes row

leaf_bytes : (rows : List (List Bool)) → Every is_word_byte (leaf_text rows)
leaf_bytes [] = refl
leaf_bytes (row ∷ rows) = every_append is_word_byte (map leaf_mark row ++ 36 ∷ []) (leaf_text rows) (row_bytes row) (leaf_bytes rows)

leaf_some : (rows : List (List Bool)) → 0 < length rows → 0 < length (leaf_text rows)
leaf_some [] h = h
leaf_some (row ∷ rows) h =
    let e = length-append (map leaf_mark row ++ 36 ∷ []) (leaf_text rows) in
    let f = length-append (map leaf_mark row) (36 ∷ []) in
    omega arith

-- ---- nodes

-- the numbers of a node are not too large to be written
abbrev pub AreSmall : Node → Type 0
AreSmall (Leaf rows) = Unit {0}
AreSmall (Cells nw ne sw se) = Unit {0}
AreSmall (Parts level nw ne sw se) = AllByRecursion (λ n. n < 2 ^ 64) (nw ∷ ne ∷ sw ∷ se ∷ [])

pub node_said : (states : ℕ) (earlier : List Node) (n : Node) → HasForm states n → MayFollow earlier n → AreSmall n → MacrocellWordsSay (words_of (node_text n)) (Adds n)
node_said states earlier (Leaf rows) form stands small =
    let eight : length rows ≡ 8 = form.1 in
    let some = leaf_some rows (omega arith) in
    (leaf_text rows, one_word (leaf_text rows) (word_from (leaf_text rows) some (leaf_bytes rows)), record { marks = rows_read rows; height = omega arith; width = form.2 })
node_said states earlier (Cells nw ne sw se) form stands small =
    numbers_say (1 ∷ nw ∷ ne ∷ sw ∷ se ∷ [])
    (omega arith, (omega (arith, stands.0), (omega (arith, stands.1.0), (omega (arith, stands.1.1.0), (omega (arith, stands.1.1.1.0), tt)))))
node_said states earlier (Parts level nw ne sw se) form stands small = numbers_say (level ∷ nw ∷ ne ∷ sw ∷ se ∷ []) (omega (arith, stands.0.1), small)

pub node_line : (earlier : List Node) (n : Node) → MayFollow earlier n → AreSmall n → IsLine (node_text n)
node_line earlier (Leaf rows) stands small = word_is_line (leaf_text rows) (leaf_bytes rows)
node_line earlier (Cells nw ne sw se) stands small =
    numbers_line (1 ∷ nw ∷ ne ∷ sw ∷ se ∷ [])
    (omega arith, (omega (arith, stands.0), (omega (arith, stands.1.0), (omega (arith, stands.1.1.0), (omega (arith, stands.1.1.1.0), tt)))))
node_line earlier (Parts level nw ne sw se) stands small = numbers_line (level ∷ nw ∷ ne ∷ sw ∷ se ∷ []) (omega (arith, stands.0.1), small)

-- ---- the rule text and the generation

pub rule_said : (rule : List ℕ) → IsWord rule → MacrocellWordsSay (words_of (codes "#R " ++ rule)) (Rule rule)
rule_said rule h =
    let last : words_of (codes " " ++ rule) ≡ rule ∷ [] = ap (λ l. words_of (codes " " ++ l)) (sym (append-nil rule)) ∙ words_next (codes " ") rule [] refl h refl in
    ([], words_ahead (codes "#R") (codes " " ++ rule) refl refl ∙ ap (λ l. codes "#R" ∷ l) last)

pub rule_line : (rule : List ℕ) → IsWord rule → IsLine (codes "#R " ++ rule)
rule_line rule h = every_append (λ b. not (is_line_end b)) (codes "#R ") rule refl (word_is_line rule (every_word_byte rule h))

pub generation_said : (count : ℕ) → count < 2 ^ 63 → MacrocellWordsSay (words_of (codes "#G " ++ decimal count)) (Generation count)
generation_said count h =
    let w = decimal_writes count (omega arith) in
    let last : words_of (codes " " ++ decimal count) ≡ decimal count ∷ [] =
    ap (λ l. words_of (codes " " ++ l)) (sym (append-nil (decimal count))) ∙ words_next (codes " ") (decimal count) [] refl (digits_are_word (decimal count) w.0) refl in
    (decimal count, words_ahead (codes "#G") (codes " " ++ decimal count) refl refl ∙ ap (λ l. codes "#G" ∷ l) last, w, h)

pub generation_line : (count : ℕ) → count < 2 ^ 63 → IsLine (codes "#G " ++ decimal count)
generation_line count h =
    let w = decimal_writes count (omega arith) in
    every_append (λ b. not (is_line_end b)) (codes "#G ") (decimal count) refl (word_is_line (decimal count) (digits_in_word (decimal count) w.0))

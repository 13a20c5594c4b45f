-- Means for the worked examples: what tests by computation find.
use Rattle.std.proofs.Common.{◌≡◌, ◌≢◌, ℕ, zero, suc, ◌+◌, decimal, ◌<◌, lit≤, lit<, arith, length, slice_index_or, Bool, true, false, ◌&&◌, ◌⊎◌, Some, None, inl, inr, List, [], ◌∷◌, ◌++◌, map, codes, refl, sym, ap, ap₂, subst, ◌∙◌, if◌then◌else◌}
use Rattle.std.specs.List.{AllByRecursion, AllPairs, AllZip, list_all, join_with_byte, last_or, range_with_len}
use Rattle.std.specs.Ordering.{int_eq}
use Rattle.std.proofs.lemmas.Bool.{and_parts, cases_Bool}
use Rattle.std.proofs.lemmas.Fmt.{decimal_digit}
use Rattle.ca_plane.specs.Prelude.{AreDigits, is_digit, value, lines_of, text_of, words_of, Picture, cell}
use Rattle.ca_plane.proofs.Pictures.{place-from_true}
use Rattle.ca_quad.specs.Prelude.{IsWithinLevel}
use Rattle.ca_macro.specs.declared.fault.MacroFault.TheVariants.{Forward}
use Rattle.ca_macro.specs.Prelude.{Node, Leaf, node_level, leaf_rows, Adds, IsNumber, begins_macro, HasMacrocellLine, HasBadByte, AreMisspelledNodeWords, AreFaulty, picture_of_nodes, Fits}
use Rattle.ca_macro.specs.Prelude.{IsLeastLevel, AreInPlace, HasForm, is_empty, walk_of, numbers_once, numbers_text, tidy_lines, IsTidyMacrocell}
use Rattle.ca_macro.specs.inner.Leaves.{is_leaf, is_live}
use Rattle.ca_macro.proofs.Leaves.{leaf_found, no_leaf}

-- ---- numbers

abbrev pub are_digits : List ℕ → Bool
are_digits [] = false
are_digits (d ∷ ds) = list_all is_digit (d ∷ ds)

digits_found : (w : List ℕ) → are_digits w ≡ true → AreDigits w
digits_found [] h = h
digits_found (d ∷ ds) h = h

words_found : (words : List (List ℕ)) → list_all are_digits words ≡ true → AllZip IsNumber words (map value words)
words_found [] h = tt
words_found (w ∷ ws) h =
    let p = and_parts (are_digits w) (list_all are_digits ws) h in
    ((digits_found w p.0, refl), words_found ws p.1)

-- a line whose words are digits is numbers
pub numbers_found : (line : List ℕ) → list_all are_digits (words_of line) ≡ true → AllZip IsNumber (words_of line) (map value (words_of line))
numbers_found line h = words_found (words_of line) h

-- ---- faulty lines

-- the line after the first
abbrev pub faulty : (bytes line : List ℕ) (later : List (List ℕ)) (P : List Node → List (List ℕ) → Type 0) → begins_macro bytes ≡ true → lines_of bytes ≡ codes "[M2]" ∷ line ∷ later
    → P [] (words_of line) → HasMacrocellLine bytes P
faulty bytes line later P begins lines holds = record {
  first = codes "[M2]";
  good = [];
  line = line;
  later = later;
  said = [];
  begins = begins;
  lines_are = lines;
  say = tt;
  holds = holds;
}

-- a leaf of one cell
abbrev pub one_cell_leaf : Node
one_cell_leaf = Leaf ((true ∷ []) ∷ [])

-- the line after the first and a leaf of one cell
abbrev pub faulty_after_leaf : (bytes line : List ℕ) (P : List Node → List (List ℕ) → Type 0) → begins_macro bytes ≡ true → lines_of bytes ≡ codes "[M2]" ∷ codes "*$" ∷ line ∷ []
    → P (one_cell_leaf ∷ []) (words_of line) → HasMacrocellLine bytes P
faulty_after_leaf bytes line P begins lines holds = record {
  first = codes "[M2]";
  good = codes "*$" ∷ [];
  line = line;
  later = [];
  said = Adds one_cell_leaf ∷ [];
  begins = begins;
  lines_are = lines;
  say = ((codes "*$", refl, leaf_found (codes "*$") refl), tt, tt);
  holds = holds;
}

-- a line that names itself as a part of its square
pub own_number : AreFaulty Forward [] (words_of (codes "4 0 0 0 1"))
own_number =
    (4, 0, 0, 0, 1, numbers_found (codes "4 0 0 0 1") refl, (lit≤ tt, lit≤ tt), record { good = 0 ∷ 0 ∷ 0 ∷ []; number = 1; more = []; spelled = refl; named = (tt, (tt, (tt, tt))); holds = lit< tt })

-- four numbers
pub four_numbers : AreMisspelledNodeWords (words_of (codes "4 0 0 0"))
four_numbers = inr (inr (inl (refl, λ level nw ne sw se h. h.1.1.1.1)))

-- a byte that ends a leaf
pub bad_byte : (good : List ℕ) (byte : ℕ) (more : List ℕ) (test : ℕ → Bool) → good ≢ [] → is_leaf good ≡ true → is_leaf (good ++ byte ∷ []) ≡ false → test byte ≡ true
    → HasBadByte (good ++ byte ∷ more) test
bad_byte good byte more test some leaf other passes = record {
  good = good;
  rows = map (map is_live) (leaf_rows good);
  byte = byte;
  more = more;
  some = some;
  leaf = leaf_found good leaf;
  spelled = refl;
  ends_leaf = λ longer. no_leaf (good ++ byte ∷ []) longer other;
  passes = passes;
}

-- ---- squares

-- the live cells of a list fit where all its places do
pub fits_found : (level : ℕ) (p : Picture) → AllByRecursion (λ e. IsWithinLevel level e.0.x × IsWithinLevel level e.0.y) p → Fits level (cell p)
fits_found level [] h x y live = absurd (live refl)
fits_found level (e ∷ es) h x y live =
    elim (cases_Bool (int_eq y e.0.y && int_eq x e.0.x)) [
      | inl t ↦
          let place = place-from_true x y e.0 t in
          (subst (IsWithinLevel level) (sym place.1) h.0.0, subst (IsWithinLevel level) (sym place.0) h.0.1)
      | inr f ↦ fits_found level es h.1 x y (λ z. live (ap (λ b. if b then e.1 else cell es x y) f ∙ z))
    ]

-- ---- pairs

-- each item differs from all later ones
abbrev pub Differ : List Node → Type 0
Differ [] = Unit {0}
Differ (n ∷ ns) = AllByRecursion (λ m. n ≢ m) ns × Differ ns

one_of : (P : Node → Type 0) (ns : List Node) (j : ℕ) (d : Node) → AllByRecursion P ns → j < length ns → P (slice_index_or ns j d)
one_of P [] j d h k = absurd (omega arith)
one_of P (n ∷ ns) zero d h k = h.0
one_of P (n ∷ ns) (suc j) d h k = one_of P ns j d h.1 (omega arith)

pub pairs_found : (ns : List Node) → Differ ns → AllPairs (λ m n. m ≢ n) ns
pairs_found [] h i j d less k = absurd (omega arith)
pairs_found (n ∷ ns) h i zero d less k = absurd (omega arith)
pairs_found (n ∷ ns) h zero (suc j) d less k = one_of (λ m. n ≢ m) ns j d h.0 (omega arith)
pairs_found (n ∷ ns) h (suc i) (suc j) d less k = pairs_found ns h.1 i j d (omega arith) (omega arith)

-- ---- numbers of one digit, as they are written

-- five digits with blanks between
abbrev pub digits_text : List ℕ → List ℕ
digits_text numbers = join_with_byte 32 (map (λ n. (48 + n) ∷ []) numbers)

digits_are : (ns : List ℕ) → AllByRecursion (λ n. n < 10) ns → map (λ n. (48 + n) ∷ []) ns ≡ map decimal ns
digits_are [] h = refl
digits_are (n ∷ ns) h = ap₂ (λ x xs. x ∷ xs) (sym (decimal_digit n h.0)) (digits_are ns h.1)

texts_are : (nodes : List (List ℕ)) → AllByRecursion (AllByRecursion (λ n. n < 10)) nodes → map digits_text nodes ≡ map numbers_text nodes
texts_are [] h = refl
texts_are (n ∷ ns) h = ap₂ (λ x xs. x ∷ xs) (ap (join_with_byte 32) (digits_are n h.0)) (texts_are ns h.1)

-- a text of lines, and lines of such numbers after them
pub spelled_by : (lines nodes : List (List ℕ)) → AllByRecursion (AllByRecursion (λ n. n < 10)) nodes
    → text_of (lines ++ map digits_text nodes) ≡ text_of (lines ++ map numbers_text nodes)
spelled_by lines nodes h = ap (λ texts. text_of (lines ++ texts)) (texts_are nodes h)

-- ---- tidy texts

-- a tidy text whose picture, root, order and spelling are found by computing
pub tidy_found : (text : List ℕ) (cells : Picture) (rule_text : List ℕ) (states : ℕ) (nodes : List Node) (root : Node) → cells ≡ picture_of_nodes nodes → last_or None nodes ≡ Some root
    → numbers_once (walk_of nodes) ≡ range_with_len 1 (length nodes) → IsLeastLevel states (cell cells) (node_level root) → AreInPlace [] nodes → AllByRecursion (HasForm states) nodes → Differ nodes
    → AllByRecursion (λ n. is_empty n ≡ false) nodes ⊎ (nodes ≡ root ∷ []) → text ≡ text_of (tidy_lines rule_text 0 nodes) → IsTidyMacrocell text (cell cells) rule_text 0 states
tidy_found text cells rule_text states nodes root same last order level in_place forms differ empties spelled = record {
  nodes = nodes;
  tidy = record {
    root = root;
    shown = λ x y. ap (λ (p : Picture). cell p x y) same;
    root_is_last = last;
    level = level;
    in_place = in_place;
    forms = forms;
    distinct = pairs_found nodes differ;
    empties = empties;
    order = order;
  };
  spelled = spelled;
}

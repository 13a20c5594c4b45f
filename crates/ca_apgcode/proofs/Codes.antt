-- Cells have one text, and a text has one picture.
use Rattle.std.proofs.Common.{◌≡◌, ℕ, zero, suc, ◌+◌, ◌-◌, ◌*◌, ◌/◌, ◌%◌, ◌<◌, ◌≤◌, List, [], ◌∷◌, length, map, get_or, refl, sym, ap, ap₂, subst, ◌∙◌, inl, inr, arith}
use Rattle.std.specs.Int.{bit_at}
use Rattle.std.specs.List.{flat_map, join_with_byte, AllByRecursion}
use Rattle.std.proofs.lemmas.Bool.{cases_lt, cases_eq}
use Rattle.std.proofs.lemmas.Grind.{same_number_lists}
use Rattle.std.proofs.lemmas.List.{same_lists, get_or_past}
use Rattle.std.proofs.lemmas.Nat.Bits.{bit_at-zero, bit_at-lt, bit_at_above, same_from_bits}
use Rattle.ca_apgcode.specs.Prelude.{GridCells, IsGrid, IsLeastGrid, cell, Step, IsStep, IsRepresentation, IsCode, five_cells, step_text, step_columns}
use Rattle.ca_apgcode.proofs.StepTexts.{one_list_of_strips}
use Rattle.ca_apgcode.proofs.StepColumns.{one_list_of_steps}

-- an item is the same whatever stands for a missing one
item_there : (strips : List (List Step)) (i : ℕ) (d : List Step) → i < length strips → get_or strips i d ≡ get_or strips i []
item_there [] i d below = elim below [ ]
item_there (s ∷ ss) zero d below = refl
item_there (s ∷ ss) (suc i) d below = item_there ss i d (omega arith)

-- cells have one text
pub one_text : (cells : ℕ → ℕ → ℕ) (height : ℕ) (s t : List ℕ) → IsRepresentation cells height s → IsRepresentation cells height t → s ≡ t
one_text cells height s t one other =
    let as_many : length one.strips ≡ length other.strips = one.count ∙ sym other.count in
    let strips : one.strips ≡ other.strips = same_lists one.strips other.strips as_many (λ i d below.
    let there : i < length other.strips = omega (arith, below, as_many) in
    let p = one.each i below in
    let q = other.each i there in
    item_there one.strips i d below ∙ (one_list_of_steps (get_or one.strips i []) (get_or other.strips i []) p.each q.each (λ x. p.columns x ∙ sym (q.columns x)) ∙ sym (item_there other.strips i d there))) in
    one.whole ∙ (ap (λ l. join_with_byte 122 (map (flat_map step_text) l)) strips ∙ sym other.whole)

-- a live cell is in the box
pub live_column : (grid : GridCells) (x y : ℕ) → cell grid x y ≡ 1 → x < length grid.columns
live_column grid x y live = elim (cases_lt x (length grid.columns)) [
  | inl within ↦ within
  | inr east ↦
      let none : cell grid x y ≡ 0 = ap (λ n. bit_at n y) (get_or_past grid.columns x 0 east) ∙ bit_at-zero y in
      absurd (omega (arith, live, none))
]

pub live_row : (grid : GridCells) (x y : ℕ) → IsGrid grid → cell grid x y ≡ 1 → y < grid.height
live_row grid x y is_grid live = elim (cases_lt y grid.height) [
  | inl within ↦ within
  | inr south ↦
      let none : cell grid x y ≡ 0 = bit_at_above (get_or grid.columns x 0) grid.height y (is_grid.rows x) south in
      absurd (omega (arith, live, none))
]

-- a smallest box is no larger than another with the same cells
narrow : (grid other : GridCells) → IsLeastGrid grid → ((x y : ℕ) → cell grid x y ≡ cell other x y) → length grid.columns ≤ length other.columns
narrow grid other least same =
    let there : length grid.columns - 1 < length other.columns = live_column other (length grid.columns - 1) least.east.0 (sym (same (length grid.columns - 1) least.east.0) ∙ least.east.1) in
    let some : length grid.columns - 1 < length grid.columns = live_column grid (length grid.columns - 1) least.east.0 least.east.1 in
    omega (arith, there, some)

low : (grid other : GridCells) → IsGrid grid → IsGrid other → IsLeastGrid grid → ((x y : ℕ) → cell grid x y ≡ cell other x y) → grid.height ≤ other.height
low grid other is_grid is_other least same =
    let there : grid.height - 1 < other.height = live_row other least.south.0 (grid.height - 1) is_other (sym (same least.south.0 (grid.height - 1)) ∙ least.south.1) in
    let some : grid.height - 1 < grid.height = live_row grid least.south.0 (grid.height - 1) is_grid least.south.1 in
    omega (arith, there, some)

-- two smallest boxes with the same cells are one
pub one_least_grid : (grid other : GridCells) → IsGrid grid → IsGrid other → IsLeastGrid grid → IsLeastGrid other → ((x y : ℕ) → cell grid x y ≡ cell other x y) → grid ≡ other
one_least_grid grid other is_grid is_other least least_other same =
    let back = λ (x y : ℕ). sym (same x y) in
    let width : length grid.columns ≡ length other.columns = omega (arith, narrow grid other least same, narrow other grid least_other back) in
    let height : grid.height ≡ other.height = omega (arith, low grid other is_grid is_other least same, low other grid is_other is_grid least_other back) in
    let columns : grid.columns ≡ other.columns = same_number_lists grid.columns other.columns width (λ x below. same_from_bits (get_or grid.columns x 0) (get_or other.columns x 0) (λ y. same x y)) in
    let make : ℕ → List ℕ → GridCells = λ h l. record { height = h; columns = l } in
    ap₂ make height columns

-- five binary digits are determined by their number
digits_from_number : (a b c d e p q r s t : ℕ) → a < 2 → b < 2 → c < 2 → d < 2 → p < 2 → q < 2 → r < 2 → s < 2 → a + 2 * b + 4 * c + 8 * d + 16 * e ≡ p + 2 * q + 4 * r + 8 * s + 16 * t → (a ≡ p) × (b ≡ q) × (c ≡ r) × (d ≡ s) × (e ≡ t)
digits_from_number a b c d e p q r s t la lb lc ld lp lq lr ls same =
    let first : a ≡ p = omega arith in
    let second : b ≡ q = omega (arith, first) in
    let third : c ≡ r = omega (arith, first, second) in
    let fourth : d ≡ s = omega (arith, first, second, third) in
    (first, second, third, fourth, omega (arith, first, second, third, fourth))

-- cells with the same numbers of five are the same
pub cells_from_five : (grid other : GridCells) (x i y : ℕ) → i ≡ y / 5 → five_cells (cell grid) x (5 * i) ≡ five_cells (cell other) x (5 * i) → cell grid x y ≡ cell other x y
cells_from_five grid other x i y row same =
    let bit = λ (k : ℕ). bit_at-lt (get_or grid.columns x 0) k in
    let bit' = λ (k : ℕ). bit_at-lt (get_or other.columns x 0) k in
    let z = 5 * i in
    let digits = digits_from_number (cell grid x z) (cell grid x (z + 1)) (cell grid x (z + 2)) (cell grid x (z + 3)) (cell grid x (z + 4)) (cell other x z) (cell other x (z + 1)) (cell other x (z + 2)) (cell other x (z + 3)) (cell other x (z + 4)) (bit z) (bit (z + 1)) (bit (z + 2)) (bit (z + 3)) (bit' z) (bit' (z + 1)) (bit' (z + 2)) (bit' (z + 3)) same in
    let at = λ (k : ℕ) (here : y ≡ k) (both : cell grid x k ≡ cell other x k). subst (λ v. cell grid x v ≡ cell other x v) (sym here) both in
    elim (cases_eq (y % 5) 0) [
      | inl r ↦ at z (omega (arith, row, r)) digits.0
      | inr n0 ↦ elim (cases_eq (y % 5) 1) [
        | inl r ↦ at (z + 1) (omega (arith, row, r)) digits.1
        | inr n1 ↦ elim (cases_eq (y % 5) 2) [
          | inl r ↦ at (z + 2) (omega (arith, row, r)) digits.2
          | inr n2 ↦ elim (cases_eq (y % 5) 3) [
            | inl r ↦ at (z + 3) (omega (arith, row, r)) digits.3
            | inr n3 ↦ at (z + 4) (omega (arith, row, n0, n1, n2, n3)) digits.4
          ]
        ]
      ]
    ]

-- what holds of each by its index holds by recursion
pub each_by_index : (P : List Step → Type 0) (strips : List (List Step)) → ((i : ℕ) → i < length strips → P (get_or strips i [])) → AllByRecursion P strips
each_by_index P [] each = tt
each_by_index P (s ∷ ss) each = (each 0 (omega arith), each_by_index P ss (λ i below. each (suc i) (omega (arith, below))))

-- a text of as many strips has one list of them
same_strips : (ss ts : List (List Step)) (text : List ℕ) → 0 < length ss → 0 < length ts → AllByRecursion (AllByRecursion IsStep) ss → AllByRecursion (AllByRecursion IsStep) ts → text ≡ join_with_byte 122 (map (flat_map step_text) ss) → text ≡ join_with_byte 122 (map (flat_map step_text) ts) → ss ≡ ts
same_strips [] ts text some others each_s each_t one other = elim some [ ]
same_strips (s ∷ ss) [] text some others each_s each_t one other = elim others [ ]
same_strips (s ∷ ss) (t ∷ ts) text some others each_s each_t one other = one_list_of_strips (s ∷ ss) (t ∷ ts) each_s each_t (ap (λ l. 122 ∷ l) (sym one ∙ other))

pub some_strips : (grid : GridCells) (text : List ℕ) (code : IsCode grid text) → 0 < length code.is_representation.strips
some_strips grid text code =
    let high : grid.height - 1 < grid.height = live_row grid code.is_least.south.0 (grid.height - 1) code.is_grid code.is_least.south.1 in
    let count : length code.is_representation.strips ≡ (grid.height + 4) / 5 = code.is_representation.count in
    omega (arith, high, count)

-- a text has one picture
pub one_picture : (grid other : GridCells) (text : List ℕ) → IsCode grid text → IsCode other text → grid ≡ other
one_picture grid other text one two =
    let p = one.is_representation in
    let q = two.is_representation in
    let strips : p.strips ≡ q.strips = same_strips p.strips q.strips text (some_strips grid text one) (some_strips other text two) (each_by_index (AllByRecursion IsStep) p.strips (λ i below. (p.each i below).each)) (each_by_index (AllByRecursion IsStep) q.strips (λ i below. (q.each i below).each)) p.whole q.whole in
    let count : length p.strips ≡ length q.strips = ap length strips in
    one_least_grid grid other one.is_grid two.is_grid one.is_least two.is_least (λ x y. elim (cases_lt (y / 5) (length p.strips)) [
      | inl within ↦
          let there : y / 5 < length q.strips = omega (arith, within, count) in
          cells_from_five grid other x (y / 5) y refl (sym ((p.each (y / 5) within).columns x) ∙ (ap (λ l. get_or (flat_map step_columns (get_or l (y / 5) [])) x 0) strips ∙ (q.each (y / 5) there).columns x))
      | inr south ↦
          bit_at_above (get_or grid.columns x 0) grid.height y (one.is_grid.rows x) (omega (arith, south, p.count)) ∙ sym (bit_at_above (get_or other.columns x 0) other.height y (two.is_grid.rows x) (omega (arith, south, count, q.count)))
    ])

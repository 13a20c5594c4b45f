-- Columns of a grid that are drawn cell by cell.
use Rattle.std.proofs.Common.{◌≡◌, ℕ, ◌+◌, ◌≤◌, ℤ, pos, negsuc, ◌+ℤ◌, List, [], length, get_or, Bool, false, IsTrue, inl, inr, sym, ap, subst, ◌∙◌, arith}
use Rattle.std.proofs.lemmas.Bool.{cases_lt, cases_eq, true≢false}
use Rattle.std.proofs.lemmas.Int.{ints}
use Rattle.std.proofs.lemmas.List.{get_or_past}
use Rattle.std.proofs.lemmas.Nat.Bits.{bit_at-lt, bit_at-zero, bit_at_above}
use Rattle.std.specs.Int.{bit_at}
use Rattle.ca_plane.specs.declared.bit_plane.CellWord.{CellWord}
use Rattle.ca_plane.specs.Prelude.{bit_cell, AddsRun, from_corner}
use Rattle.ca_apgcode.specs.Prelude.{GridCells, IsGrid, cell}
use Rattle.ca_import.specs.inner.Drawn.{IsDrawnTo}

module _ (cells : ℕ → ℕ → ℕ) (column row : ℕ) (old : List CellWord) (h : IsDrawnTo cells column row old) where
  -- one more cell of the column is drawn, which is live
  pub draws_live : (new : List CellWord) → AddsRun (record { y = pos row; x = pos column }) 1 old new → cells column row ≡ 1 → IsDrawnTo cells column (row + 1) new
  draws_live new run live = record {
    before = λ x y less. run.other (pos x) (pos y) (λ n low xe ye. omega (arith, ints, low, xe, less)) ∙ h.before x y less;
    above = λ y less. elim (cases_lt y row) [
      | inl over ↦ run.other (pos column) (pos y) (λ n low xe ye. omega (arith, ints, ye, over)) ∙ h.above y over
      | inr last ↦
          let same : y ≡ row = omega (arith, less, last) in
          let first : (pos column +ℤ pos 0) ≡ pos column = omega (arith, ints) in
          let here : bit_cell new (pos column) (pos row) ≡ 1 = subst (λ x. bit_cell new x (pos row) ≡ 1) first (run.run 0 (omega arith)) in
          subst (λ v. bit_cell new (pos column) (pos v) ≡ cells column v) (sym same) (here ∙ sym live)
    ];
    below = λ y under. run.other (pos column) (pos y) (λ n low xe ye. omega (arith, ints, ye, under)) ∙ h.below y (omega (arith, under));
    later = λ x y more. run.other (pos x) (pos y) (λ n low xe ye. omega (arith, ints, low, xe, more)) ∙ h.later x y more;
    north = λ x y. run.other (pos x) (negsuc y) (λ n low xe ye. omega (arith, ints, ye)) ∙ h.north x y;
    west = λ x y. run.other (negsuc x) y (λ n low xe ye. omega (arith, ints, xe)) ∙ h.west x y;
  }

  -- or dead
  pub draws_dead : cells column row ≡ 0 → IsDrawnTo cells column (row + 1) old
  draws_dead dead = record {
    before = h.before;
    above = λ y less. elim (cases_lt y row) [
      | inl over ↦ h.above y over
      | inr last ↦
          let same : y ≡ row = omega (arith, less, last) in
          subst (λ v. bit_cell old (pos column) (pos v) ≡ cells column v) (sym same) (h.below row (omega arith) ∙ sym dead)
    ];
    below = λ y under. h.below y (omega (arith, under));
    later = h.later;
    north = h.north;
    west = h.west;
  }

  -- the column ends
  pub ends_column : ((y : ℕ) → row ≤ y → cells column y ≡ 0) → IsDrawnTo cells (column + 1) 0 old
  ends_column dead = record {
    before = λ x y less. elim (cases_lt x column) [
      | inl west ↦ h.before x y west
      | inr last ↦
          let same : x ≡ column = omega (arith, less, last) in
          subst (λ u. bit_cell old (pos u) (pos y) ≡ cells u y) (sym same) (elim (cases_lt y row) [
            | inl over ↦ h.above y over
            | inr under ↦ h.below y under ∙ sym (dead y under)
          ])
    ];
    above = λ y less. absurd (omega (arith, less));
    below = λ y under. h.later (column + 1) y (omega arith);
    later = λ x y more. h.later x y (omega (arith, more));
    north = h.north;
    west = h.west;
  }

-- a cell that isn't live is dead
pub dead_cell : (grid : GridCells) (x y : ℕ) (r : Bool) → (IsTrue r → cell grid x y ≡ 1) × (cell grid x y ≡ 1 → IsTrue r) → r ≡ false → cell grid x y ≡ 0
dead_cell grid x y r told dead = elim (cases_eq (cell grid x y) 1) [
  | inl live ↦ absurd (true≢false (sym (told.1 live) ∙ dead))
  | inr other ↦ omega (arith, bit_at-lt (get_or grid.columns x 0) y, other)
]

module _ (grid : GridCells) (is_grid : IsGrid grid) (words : List CellWord) where
  dead_below : (column y : ℕ) → grid.height ≤ y → cell grid column y ≡ 0
  dead_below column y under = bit_at_above (get_or grid.columns column 0) grid.height y (is_grid.rows column) under

  dead_east : (x y : ℕ) → length grid.columns ≤ x → cell grid x y ≡ 0
  dead_east x y east = ap (λ n. bit_at n y) (get_or_past grid.columns x 0 east) ∙ bit_at-zero y

  -- a column of a grid is drawn as far as its height
  pub draws_column : (column row : ℕ) → grid.height ≤ row → IsDrawnTo (cell grid) column row words → IsDrawnTo (cell grid) (column + 1) 0 words
  draws_column column row all h = ends_column (cell grid) column row words h (λ y under. dead_below column y (omega (arith, all, under)))

  -- all its columns are drawn
  pub draws_grid : (column : ℕ) → length grid.columns ≤ column → IsDrawnTo (cell grid) column 0 words → (x y : ℤ) → bit_cell words x y ≡ from_corner (cell grid) x y
  draws_grid column all h (pos x) (pos y) = elim (cases_lt x column) [
    | inl west ↦ h.before x y west
    | inr last ↦ elim (cases_eq x column) [
      | inl same ↦ subst (λ u. bit_cell words (pos u) (pos y) ≡ cell grid u y) (sym same) (h.below y (omega arith) ∙ sym (dead_east column y all))
      | inr more ↦ h.later x y (omega (arith, last, more)) ∙ sym (dead_east x y (omega (arith, all, last)))
    ]
  ]
  draws_grid column all h (pos x) (negsuc y) = h.north x y
  draws_grid column all h (negsuc x) y = h.west x y

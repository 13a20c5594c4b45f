-- Cells drawn over those of a plane.
use Rattle.std.proofs.Common.{◌≡◌, ℕ, zero, suc, ◌+◌, ◌≤◌, ◌<◌, ℤ, pos, ◌+ℤ◌, ◌&&◌, false, List, [], ◌∷◌, ◌++◌, map, ◌⊎◌, inl, inr, refl, sym, ap, ◌∙◌, arith}
use Rattle.std.specs.Prelude.{if◌then◌else◌}
use Rattle.std.specs.Ordering.{int_eq}
use Rattle.std.specs.List.{range_with_len}
use Rattle.std.proofs.lemmas.Bool.{cases_Bool, cases_eq, and_parts, false≢true}
use Rattle.std.proofs.lemmas.Bool.Decides.{Decides-int_eq}
use Rattle.ca_plane.specs.Prelude.{AddsRun, bit_cell, Picture, cell, IsSame}
use Rattle.ca_plane.specs.declared.{bit_plane.CellWord.CellWord, point.Point.Point}
use Rattle.ca_rle.specs.Prelude.{run_of}
use Rattle.ca_rle.specs.inner.Extent.{drawn_over}

-- cells drawn over those of a picture stand before it
pub over_picture : (r : Picture) (below : ℤ → ℤ → ℕ) (p : Picture) → ((x y : ℤ) → below x y ≡ cell p x y) → (x y : ℤ) → drawn_over r below x y ≡ cell (r ++ p) x y
over_picture [] below p same x y = same x y
over_picture (e ∷ es) below p same x y = ap (λ s. if int_eq y e.0.y && int_eq x e.0.x then e.1 else s) (over_picture es below p same x y)

-- a run of cells of a plane is drawn over those that it had
pub run_drawn : (state : ℕ) (at : Point) (n m : ℕ) (old new : Picture) → IsSame new (run_of state at m ++ old) → m ≡ n → (x y : ℤ) → cell new x y ≡ drawn_over (run_of state at n) (cell old) x y
run_drawn state at n m old new same done x y = same x y ∙ rw done (sym (over_picture (run_of state at n) (cell old) old (λ x y. refl) x y))

-- some cells of a run
abbrev cells_of : ℕ → Point → ℕ → ℕ → Picture
cells_of state at a n = map (λ k. (record { y = at.y; x = at.x +ℤ pos k }, state)) (range_with_len a n)

-- a place is one of these cells
abbrev IsAmong : Point → ℕ → ℕ → ℤ → ℤ → Type 0
IsAmong at a n x y = (k : ℕ) × (a ≤ k) × (k < a + n) × (x ≡ at.x +ℤ pos k) × (y ≡ at.y)

none_among : (at : Point) (a : ℕ) (x y : ℤ) → IsAmong at a zero x y → ⊥
none_among at a x y (k, low, high, column, row) = omega (arith, low, high)

-- a cell of a run has its state, and another is as it was below
among_or_below : (state : ℕ) (at : Point) (a n : ℕ) (below : ℤ → ℤ → ℕ) (x y : ℤ)
    → (IsAmong at a n x y × (drawn_over (cells_of state at a n) below x y ≡ state)) ⊎ ((IsAmong at a n x y → ⊥) × (drawn_over (cells_of state at a n) below x y ≡ below x y))
among_or_below state at a zero below x y = inr (none_among at a x y, refl)
among_or_below state at a (suc n) below x y =
    elim (cases_Bool (int_eq y at.y && int_eq x (at.x +ℤ pos a))) [
      | inl t ↦
          let parts = and_parts (int_eq y at.y) (int_eq x (at.x +ℤ pos a)) t in
          inl ((a, omega arith, omega arith, (Decides-int_eq x (at.x +ℤ pos a)).0 parts.1, (Decides-int_eq y at.y).0 parts.0), rw t refl)
      | inr t ↦ later t (among_or_below state at (a + 1) n below x y)
    ]
  where
    not_first : (int_eq y at.y && int_eq x (at.x +ℤ pos a)) ≡ false → IsAmong at a (suc n) x y → IsAmong at (a + 1) n x y
    not_first t (k, low, high, column, row) =
        elim (cases_eq k a) [
          | inl e ↦
              let same = (Decides-int_eq x (at.x +ℤ pos a)).1 (column ∙ ap (λ j. at.x +ℤ pos j) e) in
              absurd (false≢true (sym t ∙ rw ((Decides-int_eq y at.y).1 row, same) refl))
          | inr other ↦ (k, omega (arith, low, other), omega (arith, high), column, row)
        ]

    later : (int_eq y at.y && int_eq x (at.x +ℤ pos a)) ≡ false
        → (IsAmong at (a + 1) n x y × (drawn_over (cells_of state at (a + 1) n) below x y ≡ state)) ⊎ ((IsAmong at (a + 1) n x y → ⊥) × (drawn_over (cells_of state at (a + 1) n) below x y ≡ below x y))
        → (IsAmong at a (suc n) x y × (drawn_over (cells_of state at a (suc n)) below x y ≡ state)) ⊎ ((IsAmong at a (suc n) x y → ⊥) × (drawn_over (cells_of state at a (suc n)) below x y ≡ below x y))
    later t (inl ((k, low, high, column, row), e)) = inl ((k, omega (arith, low), omega (arith, high), column, row), rw t e)
    later t (inr (out, e)) = inr ((λ (among : IsAmong at a (suc n) x y). out (not_first t among)), rw t e)

-- a run of live cells added to words is a run drawn over their cells
pub run_over : (at : Point) (n state : ℕ) (old new : List CellWord) → state ≡ 1 → AddsRun at n old new → (x y : ℤ) → bit_cell new x y ≡ drawn_over (run_of state at n) (bit_cell old) x y
run_over at n state old new live adds x y = elim (among_or_below state at 0 n (bit_cell old) x y) [
  | inl ((k, low, high, column, row), e) ↦ rw (column, row) (adds.run k (omega (arith, high))) ∙ sym (e ∙ live)
  | inr (out, e) ↦ adds.other x y (λ k high column row. out (k, omega arith, omega (arith, high), column, row)) ∙ sym e
]

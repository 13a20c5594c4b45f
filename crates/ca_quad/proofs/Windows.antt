-- Squares that show parts of larger cells.
use Rattle.std.proofs.Common.{◌≡◌, ℕ, suc, slice_index, ◌+◌, ◌-◌, ◌<◌, ◌≤◌, ◌^◌, inl, inr, Result, Ok, Err, IfOk, List, length, ap, ◌∙◌, arith}
use Rattle.std.proofs.Math.Nat.{two-pow-succ}
use Rattle.std.proofs.lemmas.List.{get_or_past}
use Rattle.std.proofs.lemmas.Nat.Bits.{bit_at_above, bit_at-zero}
use Rattle.ca_quad.specs.declared.node.Node.{Node}
use Rattle.ca_quad.specs.Prelude.{cell_of, joined_cells, IsSoundStore, Grows, ShowsSquare, AreFour}
use Rattle.ca_plane.specs.Prelude.{row_cells}
use Rattle.ca_quad.specs.inner.Window.{ShowsFrom}
use Rattle.ca_quad.proofs.Growth.{grows_on}
use Rattle.ca_plane.proofs.Numbers.{below_or_not}
use Rattle.ca_quad.specs.inner.Measure.{EndsWithin}
use Rattle.ca_quad.proofs.Cells.{in_nw, in_ne, in_sw, in_se, cells_stay, of_stays}

-- a square goes on to show them
pub window_stays : (old new : List Node) → IsSoundStore old → Grows old new → (id k left top : ℕ) (cells : ℕ → ℕ → ℕ) → ShowsFrom old id k cells left top → ShowsFrom new id k cells left top
window_stays old new sound grows id k left top cells h = record {
  is_square = of_stays old new sound grows id k h.is_square;
  has_cells = λ x y i j. ap (λ f. f x y) (cells_stay old new sound grows k id h.is_square) ∙ h.has_cells x y i j;
}

-- four squares show them side by side
pub record FourWindows (nodes : List Node) (k : ℕ) (cells : ℕ → ℕ → ℕ) (left top nw ne sw se : ℕ) : Type 0 where
  pub a : ShowsFrom nodes nw k cells left top
  pub b : ShowsFrom nodes ne k cells (left + 2 ^ k) top
  pub c : ShowsFrom nodes sw k cells left (top + 2 ^ k)
  pub d : ShowsFrom nodes se k cells (left + 2 ^ k) (top + 2 ^ k)

pub gathered : (r s t nodes : List Node) → IsSoundStore r → Grows r s → Grows s t → Grows t nodes → (k : ℕ) (cells : ℕ → ℕ → ℕ) (left top nw ne sw se : ℕ)
    → ShowsFrom r nw k cells left top → ShowsFrom s ne k cells (left + 2 ^ k) top → ShowsFrom t sw k cells left (top + 2 ^ k) → ShowsFrom nodes se k cells (left + 2 ^ k) (top + 2 ^ k)
    → FourWindows nodes k cells left top nw ne sw se
gathered r s t nodes sound g h i k cells left top nw ne sw se a b c d = record {
  a = window_stays r nodes sound (grows_on r s nodes g (grows_on s t nodes h i)) nw k left top cells a;
  b = window_stays s nodes g.sound (grows_on s t nodes h i) ne k (left + 2 ^ k) top cells b;
  c = window_stays t nodes h.sound i sw k left (top + 2 ^ k) cells c;
  d = d;
}

module _ (nodes : List Node) (k : ℕ) (cells : ℕ → ℕ → ℕ) (left top nw ne sw se : ℕ) (w : FourWindows nodes k cells left top nw ne sw se) where
  pub four_windows : k ≤ 124 → AreFour nodes k nw ne sw se
  four_windows h = record { is_low = h; is_nw = w.a.is_square; is_ne = w.b.is_square; is_sw = w.c.is_square; is_se = w.d.is_square }

  pub together_shows : (x y : ℕ) → x < 2 ^ suc k → y < 2 ^ suc k
      → joined_cells (2 ^ k) (cell_of nodes k nw) (cell_of nodes k ne) (cell_of nodes k sw) (cell_of nodes k se) x y ≡ cells (left + x) (top + y)
  together_shows x y h i =
      let side = two-pow-succ k in
      elim (below_or_not x (2 ^ k)) [
        | inl p ↦ elim (below_or_not y (2 ^ k)) [
          | inl q ↦ in_nw (2 ^ k) (cell_of nodes k nw) (cell_of nodes k ne) (cell_of nodes k sw) (cell_of nodes k se) x y p q ∙ w.a.has_cells x y p q
          | inr q ↦
              let v : top + 2 ^ k + (y - 2 ^ k) ≡ top + y = omega arith in
              in_sw (2 ^ k) (cell_of nodes k nw) (cell_of nodes k ne) (cell_of nodes k sw) (cell_of nodes k se) x y p q
              ∙ (w.c.has_cells x (y - 2 ^ k) p (omega arith) ∙ ap (λ n. cells (left + x) n) v)
        ]
        | inr p ↦
            let u : left + 2 ^ k + (x - 2 ^ k) ≡ left + x = omega arith in
            elim (below_or_not y (2 ^ k)) [
              | inl q ↦
                  in_ne (2 ^ k) (cell_of nodes k nw) (cell_of nodes k ne) (cell_of nodes k sw) (cell_of nodes k se) x y p q
                  ∙ (w.b.has_cells (x - 2 ^ k) y (omega arith) q ∙ ap (λ n. cells n (top + y)) u)
              | inr q ↦
                  let v : top + 2 ^ k + (y - 2 ^ k) ≡ top + y = omega arith in
                  in_se (2 ^ k) (cell_of nodes k nw) (cell_of nodes k ne) (cell_of nodes k sw) (cell_of nodes k se) x y p q
                  ∙ (w.d.has_cells (x - 2 ^ k) (y - 2 ^ k) (omega arith) (omega arith) ∙ ap (λ n. cells n (top + 2 ^ k + (y - 2 ^ k))) u ∙ ap (λ n. cells (left + x) n) v)
            ]
      ]

  pub window_joined : {E : Type 0} (new : List Node) (r : Result ℕ E)
      → IfOk r (λ id. ShowsSquare new id (suc k) (joined_cells (2 ^ k) (cell_of nodes k nw) (cell_of nodes k ne) (cell_of nodes k sw) (cell_of nodes k se)))
      → IfOk r (λ id. ShowsFrom new id (suc k) cells left top)
  window_joined new (Ok id) h = record { is_square = h.is_square; has_cells = λ x y i j. h.has_cells x y ∙ together_shows x y i j }
  window_joined new (Err e) h = tt

-- eight rows of eight cells end
pub rows_end : (rows : List ℕ) → length rows ≡ 8 → ((y : ℕ) → slice_index rows y < 256) → EndsWithin 8 (row_cells rows)
rows_end rows eight low x y (inl h) = bit_at_above (slice_index rows y) 8 x (low y) h
rows_end rows eight low x y (inr h) = rw (get_or_past rows y 0 (omega arith)) (bit_at-zero x)

-- a window of cells that agree there with others
pub window_as : {E : Type 0} (new : List Node) (r : Result ℕ E) (k : ℕ) (p q : ℕ → ℕ → ℕ) → ((x y : ℕ) → x < 2 ^ k → y < 2 ^ k → p x y ≡ q x y) → IfOk r (λ id. ShowsFrom new id k p 0 0) → IfOk r (λ id. ShowsFrom new id k q 0 0)
window_as new (Ok id) k p q same h = record { is_square = h.is_square; has_cells = λ x y i j. h.has_cells x y i j ∙ same (0 + x) (0 + y) (omega arith) (omega arith) }
window_as new (Err e) k p q same h = tt

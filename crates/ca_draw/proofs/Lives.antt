-- A square has a live cell where one of its four squares has.
use Rattle.std.proofs.Common.{◌≡◌, ◌≢◌, ℕ, zero, suc, ◌⊎◌, inl, inr, true, false, ◌||◌, nat_lt, ℤ, pos, ◌+ℤ◌, sym, ap, ◌∙◌, arith}
use Rattle.std.proofs.lemmas.Bool.{cases_Bool, or_cases, or_parts}
use Rattle.std.proofs.lemmas.Bool.Decides.{nat_tests}
use Rattle.ca_draw.specs.Prelude.{strip_of, IsInSquare, IsBlankSquare, IsLiveSquare, has_live}
use Rattle.ca_draw.proofs.Strips.{strip-zero, strip-suc, half_cases, half_even, half_odd}

live_cell : (s : ℕ) → nat_lt 0 s ≡ true → s ≢ 0
live_cell s e = grind (arith, nat_tests)

dead_cell : (s : ℕ) → nat_lt 0 s ≡ false → s ≡ 0
dead_cell s e = grind (arith, nat_tests)

-- a cell of one of the four squares is one of the larger
module _ (k : ℕ) (column row : ℤ) where
  abbrev later : ℤ → ℤ
  later n = (n +ℤ n) +ℤ pos 1

  above : (u c : ℤ) (x : ℤ) → strip_of k x ≡ u → strip_of 1 u ≡ c → strip_of (suc k) x ≡ c
  above u c x e f = strip-suc k x ∙ (ap (strip_of 1) e ∙ f)

  pub in_nw : (x y : ℤ) → IsInSquare k (column +ℤ column) (row +ℤ row) x y → IsInSquare (suc k) column row x y
  in_nw x y h = record { is_column = above (column +ℤ column) column x h.is_column (half_even column); is_row = above (row +ℤ row) row y h.is_row (half_even row) }

  pub in_ne : (x y : ℤ) → IsInSquare k (later column) (row +ℤ row) x y → IsInSquare (suc k) column row x y
  in_ne x y h = record { is_column = above (later column) column x h.is_column (half_odd column); is_row = above (row +ℤ row) row y h.is_row (half_even row) }

  pub in_sw : (x y : ℤ) → IsInSquare k (column +ℤ column) (later row) x y → IsInSquare (suc k) column row x y
  in_sw x y h = record { is_column = above (column +ℤ column) column x h.is_column (half_even column); is_row = above (later row) row y h.is_row (half_odd row) }

  pub in_se : (x y : ℤ) → IsInSquare k (later column) (later row) x y → IsInSquare (suc k) column row x y
  in_se x y h = record { is_column = above (later column) column x h.is_column (half_odd column); is_row = above (later row) row y h.is_row (half_odd row) }

  -- and no other
  below : (c x : ℤ) → strip_of (suc k) x ≡ c → (strip_of k x ≡ c +ℤ c) ⊎ (strip_of k x ≡ later c)
  below c x e = half_cases (strip_of k x) c (sym (strip-suc k x) ∙ e)

module _ (cells : ℤ → ℤ → ℕ) where
  -- a live cell where there is said to be one
  pub live_there : (k : ℕ) (column row : ℤ) → has_live cells k column row ≡ true → IsLiveSquare cells k column row
  live_there zero column row e = (column, row, record { is_column = strip-zero column; is_row = strip-zero row }, live_cell (cells column row) e)
  live_there (suc k) column row e =
      let x = column +ℤ column in
      let y = row +ℤ row in
      let x' = x +ℤ pos 1 in
      let y' = y +ℤ pos 1 in
      elim (or_cases (has_live cells k x y || has_live cells k x' y) (has_live cells k x y' || has_live cells k x' y') e) [
        | inl f ↦ elim (or_cases (has_live cells k x y) (has_live cells k x' y) f) [
          | inl g ↦ let h = live_there k x y g in (h.0, h.1, in_nw k column row h.0 h.1 h.2, h.3)
          | inr g ↦ let h = live_there k x' y g in (h.0, h.1, in_ne k column row h.0 h.1 h.2, h.3)
        ]
        | inr f ↦ elim (or_cases (has_live cells k x y') (has_live cells k x' y') f) [
          | inl g ↦ let h = live_there k x y' g in (h.0, h.1, in_sw k column row h.0 h.1 h.2, h.3)
          | inr g ↦ let h = live_there k x' y' g in (h.0, h.1, in_se k column row h.0 h.1 h.2, h.3)
        ]
      ]

  -- and none where there is not
  pub blank_there : (k : ℕ) (column row : ℤ) → has_live cells k column row ≡ false → IsBlankSquare cells k column row
  blank_there zero column row e x y h =
      let a : x ≡ column = sym (strip-zero x) ∙ h.is_column in
      let b : y ≡ row = sym (strip-zero y) ∙ h.is_row in
      rw (a, b) (dead_cell (cells column row) e)
  blank_there (suc k) column row e x y h =
      let p = column +ℤ column in
      let q = row +ℤ row in
      let p' = p +ℤ pos 1 in
      let q' = q +ℤ pos 1 in
      let two = or_parts (has_live cells k p q || has_live cells k p' q) (has_live cells k p q' || has_live cells k p' q') e in
      let north = or_parts (has_live cells k p q) (has_live cells k p' q) two.0 in
      let south = or_parts (has_live cells k p q') (has_live cells k p' q') two.1 in
      elim (below k column row column x h.is_column) [
        | inl i ↦ elim (below k column row row y h.is_row) [
          | inl j ↦ blank_there k p q north.0 x y (record { is_column = i; is_row = j })
          | inr j ↦ blank_there k p q' south.0 x y (record { is_column = i; is_row = j })
        ]
        | inr i ↦ elim (below k column row row y h.is_row) [
          | inl j ↦ blank_there k p' q north.1 x y (record { is_column = i; is_row = j })
          | inr j ↦ blank_there k p' q' south.1 x y (record { is_column = i; is_row = j })
        ]
      ]

  -- a square that is blank has none
  pub none_there : (k : ℕ) (column row : ℤ) → IsBlankSquare cells k column row → has_live cells k column row ≡ false
  none_there k column row h =
      elim (cases_Bool (has_live cells k column row)) [
        | inl e ↦ let l = live_there k column row e in absurd (l.3 (h l.0 l.1 l.2))
        | inr e ↦ e
      ]

-- Blocks into which cells are written.
use Rattle.std.proofs.Common.{◌≡◌, ℕ, ◌+◌, ◌*◌, ◌<◌, inl, inr, pos, ◌+ℤ◌, List, get_or, set, replicate, length, sym, ap, ◌∙◌, arith}
use Rattle.std.proofs.lemmas.Bool.{cases_eq}
use Rattle.std.proofs.lemmas.Int.{ints}
use Rattle.std.proofs.lemmas.List.{get_or-set_same, get_or-set_other, get_or-replicate}
use Rattle.ca_plane.specs.declared.point.Point.{Point}
use Rattle.ca_plane.specs.Prelude.{Picture, cell, IsSparse}
use Rattle.ca_plane.proofs.Pictures.{cell-listed}
use Rattle.ca_quad.specs.declared.tree.Spot.{Spot}
use Rattle.ca_quad.specs.inner.Block.{block_cells, IsCell, IsPut, IsRight}
use Rattle.ca_quad.specs.inner.Filled.{cells_from}

-- a block of zeros is right where no cell is live
pub zeros_right : (p : Picture) (at : Spot) (x y : ℕ) → x < 32 → y < 32 → cells_from (cell p) at x y ≡ 0 → IsRight p at (replicate 1024 0) x y
zeros_right p at x y i j z = get_or-replicate 1024 (32 * y + x) 0 0 (omega arith) ∙ sym z

-- a point is one cell of a block at most
one_x : (at : Spot) (q : Point) (x y a b : ℕ) → IsCell at q x y → IsCell at q a b → x ≡ a
one_x at q x y a b c d = omega (arith, ints, c.is_x, d.is_x)

one_y : (at : Spot) (q : Point) (x y a b : ℕ) → IsCell at q x y → IsCell at q a b → y ≡ b
one_y at q x y a b c d = omega (arith, ints, c.is_y, d.is_y)

-- a state written at the place of the point's cell
pub put_at : (at : Spot) (q : Point) (state n : ℕ) (old : List ℕ) → length old ≡ 1024 → (x : ℕ) × (y : ℕ) × IsCell at q x y × (n ≡ 32 * y + x) → IsPut at q state old (set old n state)
put_at at q state n old long (a, b, is, e) = record {
  here = λ x y c.
      let f : 32 * y + x ≡ n = omega (arith, one_x at q x y a b c is, one_y at q x y a b c is) in
      ap (λ m. get_or (set old n state) m 0) f ∙ get_or-set_same old n state 0 (omega (arith, is.low_x, is.low_y));
  other = λ x y i j apart.
      get_or-set_other old n (32 * y + x) state 0 (λ f.
      let g : x ≡ a = omega (arith, is.low_x) in
      let h : y ≡ b = omega (arith, is.low_x) in
      apart (record { low_x = i; low_y = j; is_x = is.is_x ∙ ap (λ m. at.x +ℤ pos m) (sym g); is_y = is.is_y ∙ ap (λ m. at.y +ℤ pos m) (sym h) }));
}

-- the cell at a place of the list is put into the block
module _ (p : Picture) (sparse : IsSparse p) (at : Spot) (i : ℕ) (low : i < length p) (d : Point × ℕ) (old new : List ℕ) (put : IsPut at (get_or p i d).0 (get_or p i d).1 old new) where
  pub put_right : (x y : ℕ) → IsCell at (get_or p i d).0 x y → IsRight p at new x y
  put_right x y c =
      let e = get_or p i d in
      put.here x y c ∙ (sym (cell-listed p sparse i d low) ∙ (ap (λ n. cell p n e.0.y) c.is_x ∙ ap (λ n. cell p (at.x +ℤ pos x) n) c.is_y))

  pub put_keeps : (x y : ℕ) → x < 32 → y < 32 → IsRight p at old x y → IsRight p at new x y
  put_keeps x y a b h =
      elim (cases_eq (block_cells new x y) (cells_from (cell p) at x y)) [ inl e ↦ e | inr differs ↦ put.other x y a b (λ c. differs (put_right x y c)) ∙ h ]

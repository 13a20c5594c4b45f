-- Rows that are drawn cell by cell.
use Rattle.std.proofs.Common.{◌≡◌, inl, inr, ℕ, ◌<◌, ℤ, pos, ◌+ℤ◌, ◌≤ℤ◌, List, [], ◌∷◌, length, Bool, true, false, cond, ◌&&◌, ◌||◌, refl, sym, subst, ◌∙◌, arith}
use Rattle.std.proofs.lemmas.Int.{ints}
use Rattle.std.proofs.lemmas.Bool.{cases_Bool, true≢false}
use Rattle.ca_plane.proofs.Pictures.{place-from_true}
use Rattle.ca_plane.proofs.Rising.{place-itself}
use Rattle.ca_plane.specs.declared.{point.Point.Point, bit_plane.CellWord.CellWord}
use Rattle.ca_plane.specs.Prelude.{bit_cell, AddsRun}
use Rattle.ca_import.specs.Prelude.{is_live_byte, is_at, east, is_live_in_row}

-- the first cells of a row are drawn, and these are left, which begin at a point
pub record IsDrawn (first : Point) (cells : List ℕ) (old : List CellWord) (at : Point) (left : List ℕ)
    (new : List CellWord) : Type 0 where
  pub row : at.y ≡ first.y
  pub west : first.x ≤ℤ at.x
  pub east : (at.x +ℤ pos (length left)) ≡ (first.x +ℤ pos (length cells))
  -- what is drawn in the end
  pub whole : (x y : ℤ) → cond (is_live_in_row first cells x y) 1 (bit_cell old x y) ≡ cond (is_live_in_row at left x y) 1 (bit_cell new x y)

-- ---- one cell

x_same : (at : Point) (x : ℤ) (n : ℕ) → n < 1 → x ≡ (at.x +ℤ pos n) → x ≡ at.x
x_same at x n low e = omega (arith, ints, low, e)

x_first : (at : Point) (x : ℤ) → x ≡ at.x → (at.x +ℤ pos 0) ≡ x
x_first at x e = omega (arith, ints, e)

not_at : (at : Point) (x y : ℤ) → is_at at x y ≡ false → x ≡ at.x → y ≡ at.y → ⊥
not_at at x y e xe ye =
    let here : is_at at at.x at.y ≡ false = subst (λ v. is_at at at.x v ≡ false) ye (subst (λ u. is_at at u y ≡ false) xe e) in
    true≢false (sym (place-itself at) ∙ here)

-- the cell alone is made live
pub one_cell : (at : Point) (old new : List CellWord) → AddsRun at 1 old new → (x y : ℤ) → bit_cell new x y ≡ cond (is_at at x y) 1 (bit_cell old x y)
one_cell at old new run x y = elim (cases_Bool (is_at at x y)) [
  | inl e ↦
      let p = place-from_true x y at e in
      let live : bit_cell new x y ≡ 1 = subst (λ v. bit_cell new x v ≡ 1) (sym p.0) (subst (λ u. bit_cell new u at.y ≡ 1) (x_first at x p.1) (run.run 0 (omega arith))) in
      rw e live
  | inr e ↦ rw e (run.other x y (λ n low xe ye. not_at at x y e (x_same at x n low xe) ye))
]

-- ---- a row

here_live : (live here later : Bool) (old new : ℕ) → live ≡ true → new ≡ cond here 1 old → cond ((live && here) || later) 1 old ≡ cond later 1 new
here_live true true true old new l e = refl
here_live true true false old new l e = sym e
here_live true false true old new l e = refl
here_live true false false old new l e = sym e
here_live false here later old new l e = absurd (true≢false (sym l))

here_dead : (live here later : Bool) (old : ℕ) → live ≡ false → cond ((live && here) || later) 1 old ≡ cond later 1 old
here_dead false here later old l = refl
here_dead true here later old l = absurd (true≢false l)

module _ (first : Point) (cells : List ℕ) (old : List CellWord) (at : Point) (left : List ℕ) (mid : List CellWord) (drawn : IsDrawn first cells old at left mid) where
  -- one more cell, whose state is seen in the plane
  drawn_next : (b : ℕ) (bs : List ℕ) (new : List CellWord) → left ≡ b ∷ bs → ((x y : ℤ) → cond (is_live_in_row at (b ∷ bs) x y) 1 (bit_cell mid x y) ≡ cond (is_live_in_row (east at) bs x y) 1 (bit_cell new x y))
      → IsDrawn first cells old (east at) bs new
  drawn_next b bs new is step = record {
    row = drawn.row;
    west = let west = drawn.west in omega (arith, ints, west);
    east = let long : (at.x +ℤ pos (length (b ∷ bs))) ≡ (first.x +ℤ pos (length cells)) = subst (λ l. (at.x +ℤ pos (length l)) ≡ (first.x +ℤ pos (length cells))) is drawn.east in omega (arith, ints, long);
    whole = λ x y. subst (λ l. cond (is_live_in_row first cells x y) 1 (bit_cell old x y) ≡ cond (is_live_in_row at l x y) 1 (bit_cell mid x y)) is (drawn.whole x y) ∙ step x y;
  }

  -- a live one
  pub drawn_live : (b : ℕ) (bs : List ℕ) (new : List CellWord) → left ≡ b ∷ bs → is_live_byte b ≡ true → AddsRun at 1 mid new → IsDrawn first cells old (east at) bs new
  drawn_live b bs new is live run =
      drawn_next b bs new is (λ x y. here_live (is_live_byte b) (is_at at x y) (is_live_in_row (east at) bs x y) (bit_cell mid x y) (bit_cell new x y) live (one_cell at mid new run x y))

  -- a dead one
  pub drawn_dead : (b : ℕ) (bs : List ℕ) → left ≡ b ∷ bs → is_live_byte b ≡ false → IsDrawn first cells old (east at) bs mid
  drawn_dead b bs is dead =
      drawn_next b bs mid is (λ x y. here_dead (is_live_byte b) (is_at at x y) (is_live_in_row (east at) bs x y) (bit_cell mid x y) dead)

  -- the whole row
  pub drawn_all : left ≡ [] → (x y : ℤ) → bit_cell mid x y ≡ cond (is_live_in_row first cells x y) 1 (bit_cell old x y)
  drawn_all is x y = sym (subst (λ l. cond (is_live_in_row first cells x y) 1 (bit_cell old x y) ≡ cond (is_live_in_row at l x y) 1 (bit_cell mid x y)) is (drawn.whole x y))

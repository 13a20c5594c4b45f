-- Squares of 4 by 4 cells, and empty squares.
use Rattle.std.proofs.Common.{◌≡◌, ℕ, zero, suc, ◌+◌, ◌≤◌, ◌^◌, Result, Ok, Err, IfOk, List, [], ◌∷◌, slice_index, refl, sym, ap, ap₂, subst, ◌∙◌, arith}
use Rattle.std.specs.Prelude.{ℤ, pos, negsuc, ◌+ℤ◌, replicate}
use Rattle.std.proofs.lemmas.Int.{ints}
use Rattle.ca_plane.specs.Prelude.{cells_after, from_corner, ShowsPlane}
use Rattle.ca_quad.specs.declared.node.Node.{Node}
use Rattle.ca_quad.specs.Prelude.{IsOf, one_cell, joined_cells, cell_of, IsSoundStore, Grows, ShowsSquare, AreFour, AreCorners, IsEmpty}
use Rattle.ca_run.specs.Prelude.{IsCentre, IsLeap}
use Rattle.ca_run.specs.inner.Shown.{ShowsAt, FourShow, sixteen}
use Rattle.ca_plane.proofs.After.{after_same, after_none}
use Rattle.ca_run.proofs.ShowsPlane.{looks_together, looks_centre}
use Rattle.ca_run.proofs.ShownPlanes.{is_centre_at, four_was, four_go, four_stay, at_corner}

-- the cells of four squares of four cells
pub four_cells : (nodes : List Node) (w x y z : ℕ) (nw ne sw se : List ℕ) → AreCorners nodes w nw → AreCorners nodes x ne → AreCorners nodes y sw → AreCorners nodes z se
    → slice_index nw 0 ∷ slice_index nw 1 ∷ slice_index ne 0 ∷ slice_index ne 1
    ∷ slice_index nw 2 ∷ slice_index nw 3 ∷ slice_index ne 2 ∷ slice_index ne 3
    ∷ slice_index sw 0 ∷ slice_index sw 1 ∷ slice_index se 0 ∷ slice_index se 1
    ∷ slice_index sw 2 ∷ slice_index sw 3 ∷ slice_index se 2 ∷ slice_index se 3 ∷ [] ≡ sixteen (joined_cells 2 (cell_of nodes 1 w) (cell_of nodes 1 x) (cell_of nodes 1 y) (cell_of nodes 1 z))
four_cells nodes w x y z nw ne sw se a b c d =
    let f = joined_cells 2 (cell_of nodes 1 w) (cell_of nodes 1 x) (cell_of nodes 1 y) (cell_of nodes 1 z) in
    let e00 : f 0 0 ≡ slice_index nw 0 = a.has_cells 0 0 in
    let e10 : f 1 0 ≡ slice_index nw 1 = a.has_cells 1 0 in
    let e20 : f 2 0 ≡ slice_index ne 0 = b.has_cells 0 0 in
    let e30 : f 3 0 ≡ slice_index ne 1 = b.has_cells 1 0 in
    let e01 : f 0 1 ≡ slice_index nw 2 = a.has_cells 0 1 in
    let e11 : f 1 1 ≡ slice_index nw 3 = a.has_cells 1 1 in
    let e21 : f 2 1 ≡ slice_index ne 2 = b.has_cells 0 1 in
    let e31 : f 3 1 ≡ slice_index ne 3 = b.has_cells 1 1 in
    let e02 : f 0 2 ≡ slice_index sw 0 = c.has_cells 0 0 in
    let e12 : f 1 2 ≡ slice_index sw 1 = c.has_cells 1 0 in
    let e22 : f 2 2 ≡ slice_index se 0 = d.has_cells 0 0 in
    let e32 : f 3 2 ≡ slice_index se 1 = d.has_cells 1 0 in
    let e03 : f 0 3 ≡ slice_index sw 2 = c.has_cells 0 1 in
    let e13 : f 1 3 ≡ slice_index sw 3 = c.has_cells 1 1 in
    let e23 : f 2 3 ≡ slice_index se 2 = d.has_cells 0 1 in
    let e33 : f 3 3 ≡ slice_index se 3 = d.has_cells 1 1 in
    cc

-- ---- 2 by 2 squares

dot_looks : (state : ℕ) (p : ℤ → ℤ → ℕ) (a b : ℤ) → state ≡ p a b → ShowsPlane 1 (one_cell state) p a b
dot_looks state p a b e zero zero i j =
    let ax : a ≡ a +ℤ pos 0 = omega (arith, ints) in
    let by : b ≡ b +ℤ pos 0 = omega (arith, ints) in
    e ∙ ap₂ p ax by
dot_looks state p a b e (suc x) y i j = absurd (omega arith)
dot_looks state p a b e zero (suc y) i j = absurd (omega arith)

dots_look : (s t u v : ℕ) (p : ℤ → ℤ → ℕ) (a b : ℤ) → s ≡ p a b → t ≡ p (a +ℤ pos 1) b → u ≡ p a (b +ℤ pos 1) → v ≡ p (a +ℤ pos 1) (b +ℤ pos 1)
    → ShowsPlane 2 (joined_cells 1 (one_cell s) (one_cell t) (one_cell u) (one_cell v)) p a b
dots_look s t u v p a b e f g h =
    looks_together 1 (one_cell s) (one_cell t) (one_cell u) (one_cell v) p a b (dot_looks s p a b e) (dot_looks t p (a +ℤ pos 1) b f) (dot_looks u p a (b +ℤ pos 1) g) (dot_looks v p (a +ℤ pos 1) (b +ℤ pos 1) h)

-- a square of four cells that are those of a plane shows it
dots_at : {E : Type 0} (new : List Node) (r : Result ℕ E) (s t u v : ℕ) (p : ℤ → ℤ → ℕ) (a b : ℤ) → s ≡ p a b → t ≡ p (a +ℤ pos 1) b → u ≡ p a (b +ℤ pos 1) → v ≡ p (a +ℤ pos 1) (b +ℤ pos 1)
    → IfOk r (λ id. ShowsSquare new id 1 (joined_cells 1 (one_cell s) (one_cell t) (one_cell u) (one_cell v))) → IfOk r (λ id. ShowsAt new id 1 p a b)
dots_at new (Err e) s t u v p a b f g h i shows = tt
dots_at new (Ok id) s t u v p a b f g h i shows = record {
  is_square = shows.is_square;
  looks = λ x y l m. shows.has_cells x y ∙ dots_look s t u v p a b f g h i x y l m;
}

-- the middle of four squares of four cells
pub inner_cells_at : {E : Type 0} (old new : List Node) (r : Result ℕ E) (nw ne sw se : ℕ) (cells : List ℕ) (p : ℤ → ℤ → ℕ) (a b : ℤ)
    → cells ≡ sixteen (joined_cells 2 (cell_of old 1 nw) (cell_of old 1 ne) (cell_of old 1 sw) (cell_of old 1 se)) → FourShow old 1 nw ne sw se p a b
    → IfOk r (λ result_id. ShowsSquare new result_id 1 (joined_cells 1 (one_cell (slice_index cells 5)) (one_cell (slice_index cells 6)) (one_cell (slice_index cells 9)) (one_cell (slice_index cells 10))))
    → IfOk r (λ result_id. ShowsAt new result_id 1 p (a +ℤ pos 1) (b +ℤ pos 1))
inner_cells_at old new r nw ne sw se cells p a b e show made =
    let ax : a +ℤ pos 2 ≡ (a +ℤ pos 1) +ℤ pos 1 = omega (arith, ints) in
    let by : b +ℤ pos 2 ≡ (b +ℤ pos 1) +ℤ pos 1 = omega (arith, ints) in
    let looks = looks_together 2 (cell_of old 1 nw) (cell_of old 1 ne) (cell_of old 1 sw) (cell_of old 1 se) p a b show.at_nw.looks show.at_ne.looks show.at_sw.looks show.at_se.looks in
    dots_at new r (slice_index cells 5) (slice_index cells 6) (slice_index cells 9) (slice_index cells 10) p (a +ℤ pos 1) (b +ℤ pos 1)
    (ap (λ l. slice_index l 5) e ∙ looks 1 1 (omega arith) (omega arith))
    (ap (λ l. slice_index l 6) e ∙ looks 2 1 (omega arith) (omega arith) ∙ ap (λ x. p x (b +ℤ pos 1)) ax)
    (ap (λ l. slice_index l 9) e ∙ looks 1 2 (omega arith) (omega arith) ∙ ap (λ y. p (a +ℤ pos 1) y) by)
    (ap (λ l. slice_index l 10) e ∙ looks 2 2 (omega arith) (omega arith) ∙ ap₂ p ax by) made

-- the next states of the four in the middle of four squares are what these leap to
pub next_inner_leap : {E : Type 0} (next : List ℕ → ℕ) (old new : List Node) → IsSoundStore old → Grows old new → (r : Result ℕ E) (nw ne sw se : ℕ) (cells : List ℕ) (s t u v : ℕ) → AreFour old 1 nw ne sw se
    → cells ≡ sixteen (joined_cells 2 (cell_of old 1 nw) (cell_of old 1 ne) (cell_of old 1 sw) (cell_of old 1 se))
    → s ≡ next (slice_index cells 0 ∷ slice_index cells 1 ∷ slice_index cells 2 ∷ slice_index cells 4 ∷ slice_index cells 5 ∷ slice_index cells 6 ∷ slice_index cells 8 ∷ slice_index cells 9 ∷ slice_index cells 10 ∷ [])
    → t ≡ next (slice_index cells 1 ∷ slice_index cells 2 ∷ slice_index cells 3 ∷ slice_index cells 5 ∷ slice_index cells 6 ∷ slice_index cells 7 ∷ slice_index cells 9 ∷ slice_index cells 10 ∷ slice_index cells 11 ∷ [])
    → u ≡ next (slice_index cells 4 ∷ slice_index cells 5 ∷ slice_index cells 6 ∷ slice_index cells 8 ∷ slice_index cells 9 ∷ slice_index cells 10 ∷ slice_index cells 12 ∷ slice_index cells 13 ∷ slice_index cells 14 ∷ [])
    → v ≡ next (slice_index cells 5 ∷ slice_index cells 6 ∷ slice_index cells 7 ∷ slice_index cells 9 ∷ slice_index cells 10 ∷ slice_index cells 11 ∷ slice_index cells 13 ∷ slice_index cells 14 ∷ slice_index cells 15 ∷ [])
    → IfOk r (λ result_id. ShowsSquare new result_id 1 (joined_cells 1 (one_cell s) (one_cell t) (one_cell u) (one_cell v))) → IfOk r (IsLeap next new 0 nw ne sw se)
next_inner_leap next old new sound grows r nw ne sw se cells s t u v four e a b c d made = leap_of r (dots_at new r s t u v q (pos 0 +ℤ pos 1) (pos 0 +ℤ pos 1)
    (subst (λ l. s ≡ next (slice_index l 0 ∷ slice_index l 1 ∷ slice_index l 2 ∷ slice_index l 4 ∷ slice_index l 5 ∷ slice_index l 6 ∷ slice_index l 8 ∷ slice_index l 9 ∷ slice_index l 10 ∷ [])) e a)
    (subst (λ l. t ≡ next (slice_index l 1 ∷ slice_index l 2 ∷ slice_index l 3 ∷ slice_index l 5 ∷ slice_index l 6 ∷ slice_index l 7 ∷ slice_index l 9 ∷ slice_index l 10 ∷ slice_index l 11 ∷ [])) e b)
    (subst (λ l. u ≡ next (slice_index l 4 ∷ slice_index l 5 ∷ slice_index l 6 ∷ slice_index l 8 ∷ slice_index l 9 ∷ slice_index l 10 ∷ slice_index l 12 ∷ slice_index l 13 ∷ slice_index l 14 ∷ [])) e c)
    (subst (λ l. v ≡ next (slice_index l 5 ∷ slice_index l 6 ∷ slice_index l 7 ∷ slice_index l 9 ∷ slice_index l 10 ∷ slice_index l 11 ∷ slice_index l 13 ∷ slice_index l 14 ∷ slice_index l 15 ∷ [])) e d) made)
  where
    f : ℕ → ℕ → ℕ
    f = joined_cells 2 (cell_of old 1 nw) (cell_of old 1 ne) (cell_of old 1 sw) (cell_of old 1 se)

    q : ℤ → ℤ → ℕ
    q = cells_after next (from_corner f) 1

    leap_of : {E : Type 0} (r : Result ℕ E) → IfOk r (λ result_id. ShowsAt new result_id 1 q (pos 0 +ℤ pos 1) (pos 0 +ℤ pos 1)) → IfOk r (IsLeap next new 0 nw ne sw se)
    leap_of (Err f) shows = tt
    leap_of (Ok result_id) shows = record {
      are_four = four_go old new sound grows 1 nw ne sw se four;
      is_result = shows.is_square;
      shows = λ p a b show.
          let was = four_was old new sound grows 1 nw ne sw se p a b four show in
          record {
            is_square = shows.is_square;
            looks = looks_centre next 1 1 f (cell_of new 1 result_id) p a b (omega arith)
                (looks_together 2 (cell_of old 1 nw) (cell_of old 1 ne) (cell_of old 1 sw) (cell_of old 1 se) p a b was.at_nw.looks was.at_ne.looks was.at_sw.looks was.at_se.looks)
                (λ x y i j.
                let ax : (pos 0 +ℤ pos 1) +ℤ pos x ≡ pos (1 + x) = omega (arith, ints) in
                let by : (pos 0 +ℤ pos 1) +ℤ pos y ≡ pos (1 + y) = omega (arith, ints) in
                shows.looks x y i j ∙ ap₂ q ax by);
          };
    }

-- what the quarters of a square leap to is its centre
pub centre_of_leap : {E : Type 0} (next : List ℕ → ℕ) (old new : List Node) → IsSoundStore old → Grows old new → (r : Result ℕ E) (id nw ne sw se : ℕ) → IsOf old id 2
    → ((p : ℤ → ℤ → ℕ) (a b : ℤ) → ShowsAt old id 2 p a b → FourShow old 1 nw ne sw se p a b) → IfOk r (IsLeap next new 0 nw ne sw se) → IfOk r (IsCentre next new id 0 0)
centre_of_leap next old new sound grows (Err f) id nw ne sw se square quarters leap = tt
centre_of_leap next old new sound grows (Ok result_id) id nw ne sw se square quarters leap =
    let q = from_corner (cell_of old 2 id) in
    is_centre_at next old new sound grows id 0 0 0 1 result_id square (omega arith) refl
    (leap.shows q (pos 0) (pos 0) (four_stay old new sound grows 1 nw ne sw se q (pos 0) (pos 0) (quarters q (pos 0) (pos 0) (at_corner old id 2 square))))

-- ---- empty squares

-- an empty square shows the empty plane
pub empty_at : (nodes : List Node) (id level : ℕ) → IsOf nodes id level → IsEmpty (cell_of nodes level id) → ShowsAt nodes id level (λ _ _. 0) (pos 0) (pos 0)
empty_at nodes id level square empty = record { is_square = square; looks = λ x y i j. empty x y }

from_corner-empty : (cells : ℕ → ℕ → ℕ) → IsEmpty cells → (x y : ℤ) → from_corner cells x y ≡ 0
from_corner-empty cells empty (pos x) (pos y) = empty x y
from_corner-empty cells empty (pos x) (negsuc y) = refl
from_corner-empty cells empty (negsuc x) y = refl

-- the centre of an empty square is an empty square
pub empty_is_centre : (next : List ℕ → ℕ) → next (replicate 9 0) ≡ 0 → (nodes : List Node) (id k j result_id : ℕ) → IsOf nodes id (suc (suc k)) → j ≤ k → IsEmpty (cell_of nodes (suc (suc k)) id)
    → ShowsAt nodes result_id (suc k) (λ _ _. 0) (pos 0) (pos 0) → IsCentre next nodes id k j result_id
empty_is_centre next quiet nodes id k j result_id square few empty shows = record {
  in_time = few;
  is_square = square;
  is_result = shows.is_square;
  has_cells = λ u v s t.
      shows.looks u v s t
      ∙ sym (after_same next (from_corner (cell_of nodes (suc (suc k)) id)) (λ _ _. 0) (2 ^ j) (from_corner-empty (cell_of nodes (suc (suc k)) id) empty) (pos (2 ^ k + u)) (pos (2 ^ k + v)) ∙ after_none next quiet (2 ^ j) (pos (2 ^ k + u)) (pos (2 ^ k + v)));
}

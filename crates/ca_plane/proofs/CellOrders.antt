-- Cells in another order, where those at one point keep theirs, show the same.
use Rattle.std.proofs.Common.{◌≡◌, ℕ, [], ◌∷◌, ◌++◌, length, Bool, true, false, not, ◌&&◌, cond, sym, refl, ap, ◌∙◌, arith, Ordering, Less, Equal, Greater}
use Rattle.std.specs.Prelude.{ℤ, if◌then◌else◌}
use Rattle.std.specs.List.{filter}
use Rattle.std.specs.List.Sorted.{IsStableBy, ties}
use Rattle.std.specs.Ordering.{int_eq, int_cmp, is_lt, is_eq, ordering_reverse}
use Rattle.std.specs.Cmp.{tied_then}
use Rattle.ca_plane.specs.declared.point.Point.{Point}
use Rattle.ca_plane.specs.Prelude.{Picture, cell, IsSame, point_cmp}
use Rattle.ca_plane.proofs.Pictures.{point_cmp_total}

-- a cell that is kept where it is at the place, and left out elsewhere
filter-first : (b : Bool) (e : Point × ℕ) (fs : Picture) (v : ℕ) (x y : ℤ) → b ≡ (int_eq y e.0.y && int_eq x e.0.x) → cell fs x y ≡ v → cell (cond b (e ∷ fs) fs) x y ≡ (if int_eq y e.0.y && int_eq x e.0.x then e.1 else v)
filter-first true e fs v x y test rest = ap (λ u. if int_eq y e.0.y && int_eq x e.0.x then e.1 else u) rest
filter-first false e fs v x y test rest = rest ∙ rw (← test) refl

-- what is shown at a place is shown by the cells there alone
cell-filter : (here : Point × ℕ → Bool) (p : Picture) (x y : ℤ) → ((e : Point × ℕ) → here e ≡ (int_eq y e.0.y && int_eq x e.0.x)) → cell (filter here p) x y ≡ cell p x y
cell-filter here [] x y tests = refl
cell-filter here (e ∷ es) x y tests = filter-first (here e) e (filter here es) (cell es x y) x y (tests e) (cell-filter here es x y tests)

-- which of two orderings ties
not-less : (o : Ordering) → (not (is_lt (ordering_reverse o)) && not (is_lt o)) ≡ is_eq o
not-less Less = refl
not-less Equal = refl
not-less Greater = refl

-- the cells at a place are those that tie with one there
ties-test : (x y : ℤ) (e : Point × ℕ) → ties (λ (a : Point × ℕ) (b : Point × ℕ). is_lt (point_cmp b.0 a.0)) (record { y = y; x = x }, 0) e ≡ (int_eq y e.0.y && int_eq x e.0.x)
ties-test x y e =
    let at : Point = record { y = y; x = x } in
    ap (λ o. not (is_lt o) && not (is_lt (point_cmp at e.0))) (point_cmp_total.antisymm e.0 at) ∙ not-less (point_cmp at e.0) ∙ sym (tied_then (int_cmp y e.0.y) (int_cmp x e.0.x))

-- a stable sort from the last point to the first shows what was shown
pub IsSame-stable : (p q : Picture) → IsStableBy (λ (a : Point × ℕ) (b : Point × ℕ). is_lt (point_cmp b.0 a.0)) p q → IsSame p q
IsSame-stable p q stable = λ x y.
    let at : Point = record { y = y; x = x } in
    let here : Point × ℕ → Bool = ties (λ (a : Point × ℕ) (b : Point × ℕ). is_lt (point_cmp b.0 a.0)) (at, 0) in
    sym (cell-filter here p x y (ties-test x y)) ∙ ap (λ (l : Picture). cell l x y) (sym (stable (at, 0))) ∙ cell-filter here q x y (ties-test x y)

-- a list whose front is gone
pub emptied : (s front t : Picture) → s ≡ front ++ t → length front ≡ 0 → s ≡ t
emptied s [] t split none = split
emptied s (e ∷ es) t split none = absurd (omega arith)

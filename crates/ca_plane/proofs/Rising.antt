-- Pictures whose points rise.
use Rattle.std.proofs.Common.{◌≡◌, ℕ, [], ◌∷◌, map, true, ◌&&◌, refl, ◌∙◌, Less}
use Rattle.std.specs.List.Sorted.{IsStrictlySortedBy}
use Rattle.std.specs.Ordering.{int_eq}
use Rattle.std.proofs.lemmas.Bool.{cond-false, false_from_ne_true}
use Rattle.std.proofs.lemmas.Cmp.{int_eq_equiv}
use Rattle.ca_plane.specs.declared.point.Point.{Point}
use Rattle.ca_plane.specs.Prelude.{Picture, cell, point_cmp}
use Rattle.ca_plane.specs.inner.Places.{ComeBehind}
use Rattle.ca_plane.proofs.Pictures.{point_cmp_total, apart-Less}

-- the points of a picture rise
abbrev pub Rises : Picture → Type 0
Rises p = IsStrictlySortedBy point_cmp (map (λ e. e.0) p)

-- a point passes its own test
pub place-itself : (at : Point) → (int_eq at.y at.y && int_eq at.x at.x) ≡ true
place-itself at = rw (int_eq_equiv.refl at.y, int_eq_equiv.refl at.x) refl

-- before all its points a picture shows 0
pub cell-behind : (at : Point) (p : Picture) → ComeBehind at p → cell p at.x at.y ≡ 0
cell-behind at [] above = refl
cell-behind at (e ∷ es) above =
    let fails = false_from_ne_true _ (λ passes. apart-Less at e.0 at.x at.y above.0 (place-itself at) passes) in
    cond-false _ e.1 (cell es at.x at.y) fails ∙ cell-behind at es above.1

-- what comes after a point comes after each lower point
pub ComeBehind-lower : (a b : Point) (p : Picture) → point_cmp a b ≡ Less → ComeBehind b p → ComeBehind a p
ComeBehind-lower a b [] less above = tt
ComeBehind-lower a b (e ∷ es) less above = (point_cmp_total.trans a b e.0 less above.0, ComeBehind-lower a b es less above.1)

-- entries with the same parts are the same
pub entry-same : (e f : Point × ℕ) → e.0 ≡ f.0 → e.1 ≡ f.1 → e ≡ f
entry-same e f at state =
    let along : (e.0, e.1) ≡ (f.0, f.1) = cc in along

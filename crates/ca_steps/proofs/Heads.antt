-- Sparse pictures read from their first cell onwards.
use Rattle.std.proofs.Common.{◌≡◌, ◌≢◌, ℕ, ◌≤◌, [], ◌∷◌, map, refl, sym, ◌∙◌, subst, inl, inr, arith, Bool, true, false, not, ◌&&◌, Less}
use Rattle.std.specs.Prelude.{if◌then◌else◌}
use Rattle.std.specs.List.{AllByRecursion}
use Rattle.std.specs.Ordering.{int_eq}
use Rattle.std.proofs.lemmas.Bool.{cond-false, false_from_ne_true, cases_Bool, cases_eq}
use Rattle.std.proofs.lemmas.Cmp.{int_eq_equiv}
use Rattle.std.proofs.lemmas.List.Elements.{All-tail}
use Rattle.std.proofs.lemmas.Map.Keys.{sorted_head, sorted_tail}
use Rattle.ca_plane.specs.declared.point.Point.{Point}
use Rattle.ca_plane.specs.Prelude.{Picture, cell, point_cmp, IsInPlane, IsSparse}
use Rattle.ca_plane.proofs.Pictures.{point_cmp_total, apart-Less, place-from_true, cell-first, point-same}
use Rattle.ca_steps.specs.inner.Order.{NoneBefore, IsFirstPlace}
use Rattle.ca_steps.specs.inner.CellsAhead.{IsWithout}
use Rattle.ca_steps.proofs.Reading.{compared, Less_from_before}

-- a sparse picture without its first cell
IsSparse-tail : (e : Point × ℕ) (es : Picture) → IsSparse (e ∷ es) → IsSparse es
IsSparse-tail e es sparse = record {
  states = All-tail (λ f. (1 ≤ f.1) × (f.1 ≤ 255)) e es sparse.states;
  places = All-tail (λ f. IsInPlane f.0) e es sparse.places;
  rising = sorted_tail point_cmp _ _ sparse.rising;
}

pub IsSparse-from_tail : (left es : Picture) (e : Point × ℕ) → IsSparse left → left ≡ e ∷ es → IsSparse es
IsSparse-from_tail left es e sparse split = IsSparse-tail e es (subst IsSparse split sparse)

-- below all of its points a picture shows 0
cell-below : (at : Point) (p : Picture) → AllByRecursion (λ q. point_cmp at q ≡ Less) (map (λ e. e.0) p) → cell p at.x at.y ≡ 0
cell-below at [] above = refl
cell-below at (e ∷ es) above =
    let passes : (int_eq at.y at.y && int_eq at.x at.x) ≡ true = rw (int_eq_equiv.refl at.y, int_eq_equiv.refl at.x) refl in
    let fails = false_from_ne_true _ (λ there. apart-Less at e.0 at.x at.y above.0 passes there) in
    cond-false _ e.1 (cell es at.x at.y) fails ∙ cell-below at es above.1

-- points above one are above an earlier one
above-earlier : (a b : Point) (p : Picture) → point_cmp a b ≡ Less → AllByRecursion (λ q. point_cmp b q ≡ Less) (map (λ e. e.0) p) → AllByRecursion (λ q. point_cmp a q ≡ Less) (map (λ e. e.0) p)
above-earlier a b [] less above = tt
above-earlier a b (e ∷ es) less above = (point_cmp_total.trans a b e.0 less above.0, above-earlier a b es less above.1)

-- nothing is live before the first cell
pub none_before_head : (e : Point × ℕ) (es : Picture) → IsSparse (e ∷ es) → NoneBefore (e ∷ es) e.0.x e.0.y
none_before_head e es sparse = λ u v before.
    let at : Point = record { y = v; x = u } in
    let less : point_cmp at e.0 ≡ Less = Less_from_before at e.0 before in
    cell-below at (e ∷ es) (less, above-earlier at e.0 es less (sorted_head point_cmp _ _ sparse.rising))

-- the first cell of a sparse picture is live
pub head_live : (e : Point × ℕ) (es : Picture) → IsSparse (e ∷ es) → cell (e ∷ es) e.0.x e.0.y ≢ 0
head_live e es sparse = λ quiet.
    let low : 1 ≤ e.1 = (sparse.states 0 e (omega arith)).0 in
    let zero_there : e.1 ≡ 0 = sym (cell-first e es) ∙ quiet in
    omega arith

-- and its first live one
IsFirstPlace-head : (p es : Picture) (e : Point × ℕ) → IsSparse p → p ≡ e ∷ es → IsFirstPlace (λ x y. cell p x y ≢ 0) e.0
IsFirstPlace-head p es e sparse split =
    rw split (first_of e es (subst IsSparse split sparse))
  where
    first_of : (e : Point × ℕ) (es : Picture) → IsSparse (e ∷ es) → IsFirstPlace (λ x y. cell (e ∷ es) x y ≢ 0) e.0
    first_of e es sparse = record {
      here = head_live e es sparse;
      first = λ x y live before. live (none_before_head e es sparse x y before);
    }

pub IsFirstPlace-from_head : (left p es : Picture) (e : Point × ℕ) → IsSparse left → left ≡ p → left ≡ e ∷ es → IsFirstPlace (λ x y. cell p x y ≢ 0) e.0
IsFirstPlace-from_head left p es e sparse view_is split = IsFirstPlace-head p es e (subst IsSparse view_is sparse) (sym view_is ∙ split)

-- it lies in the square of a plane
pub within-head : (p es : Picture) (e : Point × ℕ) → IsSparse p → p ≡ e ∷ es → IsInPlane e.0
within-head p es e sparse split = let whole : IsSparse (e ∷ es) = subst IsSparse split sparse in whole.places 0 e (omega arith)

-- ---- cells that are taken

-- tests on two points
same_from_test : (p q : Point) → false ≡ not (int_eq p.y q.y && int_eq p.x q.x) → p ≡ q
same_from_test p q passes =
    elim (cases_Bool (int_eq p.y q.y && int_eq p.x q.x)) [
      | inl here ↦ let place = place-from_true p.x p.y q here in point-same p q place.0 place.1
      | inr there ↦ absurd (let wrong : ⊥ = cc in wrong)
    ]

other_from_test : (p q : Point) → true ≡ not (int_eq p.y q.y && int_eq p.x q.x) → p ≢ q
other_from_test p q fails = λ same.
    let passes : (int_eq p.y p.y && int_eq p.x p.x) ≡ true = rw (int_eq_equiv.refl p.y, int_eq_equiv.refl p.x) refl in
    let there : (int_eq p.y q.y && int_eq p.x q.x) ≡ true = subst (λ (r : Point). (int_eq p.y r.y && int_eq p.x r.x) ≡ true) same passes in
    let no : ⊥ = cc in no

-- where nothing is live before a point and the first cell is elsewhere, the picture shows 0 there
pub quiet_from_test : (left p es : Picture) (e : Point × ℕ) (at : Point) → IsSparse left → left ≡ p → left ≡ e ∷ es → NoneBefore p at.x at.y → true ≡ not (int_eq e.0.y at.y && int_eq e.0.x at.x) → 0 ≡ cell p at.x at.y
quiet_from_test left p es e at sparse view_is split none fails =
    let first = IsFirstPlace-from_head left p es e sparse view_is split in
    elim (compared e.0.x e.0.y at.x at.y) [
      | inl before ↦ absurd (first.here (none e.0.x e.0.y before))
      | inr o ↦ elim o [
        | inl same ↦ absurd (other_from_test e.0 at fails (point-same e.0 at same.1 same.0))
        | inr after ↦ elim (cases_eq (cell p at.x at.y) 0) [ inl quiet ↦ sym quiet | inr live ↦ absurd (first.first at.x at.y live after) ]
      ]
    ]

-- a choice of 0 where there is 0 anyway
if-zero : (b : Bool) (v : ℕ) → (b ≡ true → v ≡ 0) → v ≡ (if b then 0 else v)
if-zero true v zero = zero refl
if-zero false v zero = refl

-- where a picture shows 0, there is no cell to take
pub IsWithout-quiet : (p : Picture) (at : Point) → 0 ≡ cell p at.x at.y → IsWithout p p at
IsWithout-quiet p at quiet = record {
  cells = λ x y. if-zero _ (cell p x y) (λ here. let place = place-from_true x y at here in rw (place.0, place.1) (sym quiet));
  longer = omega arith;
  fewer = λ live. absurd (live (sym quiet));
}

-- the first cell is taken by leaving the rest
IsWithout-first : (e : Point × ℕ) (es : Picture) → IsSparse (e ∷ es) → IsWithout (e ∷ es) es e.0
IsWithout-first e es sparse =
    let rest : cell es e.0.x e.0.y ≡ 0 = cell-below e.0 es (sorted_head point_cmp _ _ sparse.rising) in
    record {
      cells = λ x y. taken _ e.1 (cell es x y) (λ here. let place = place-from_true x y e.0 here in rw (place.0, place.1) rest);
      longer = omega arith;
      fewer = λ _. omega arith;
    }
  where
    taken : (b : Bool) (s v : ℕ) → (b ≡ true → v ≡ 0) → v ≡ (if b then 0 else (if b then s else v))
    taken true s v zero = zero refl
    taken false s v zero = refl

-- where the first cell is at the point, the rest is the picture without it
pub without_from_test : (left p es : Picture) (e : Point × ℕ) (at : Point) → IsSparse left → left ≡ p → left ≡ e ∷ es → false ≡ not (int_eq e.0.y at.y && int_eq e.0.x at.x) → IsWithout p es at
without_from_test left p es e at sparse view_is split passes =
    rw (sym view_is, split) (subst (IsWithout (e ∷ es) es) (same_from_test e.0 at passes) (IsWithout-first e es (subst IsSparse split sparse)))

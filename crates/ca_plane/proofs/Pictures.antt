-- What a picture shows, for this crate and for callers.
use Rattle.std.proofs.Common.{◌≡◌, ◌≢◌, ℕ, ◌≤◌, [], ◌∷◌, get_or, ◌++◌, Bool, true, false, ◌&&◌, cond, sym, refl, ap, ◌∙◌, inl, inr, arith, Option, Some, None, map, subst, Less, Equal}
use Rattle.std.specs.Prelude.{ℤ, if◌then◌else◌}
use Rattle.std.specs.List.{All, AllByRecursion, Contains}
use Rattle.std.specs.List.Sorted.{IsStrictlySortedBy}
use Rattle.std.specs.Iterator.{Yields, YieldsFirst}
use Rattle.std.proofs.lemmas.Map.Iter.{rest_so_far, rest_more, rest_all}
use Rattle.std.proofs.lemmas.List.{append-nil, map-id}
use Rattle.std.specs.Ordering.{int_eq, int_cmp}
use Rattle.std.specs.Cmp.{IsTotalOrder, tied_then}
use Rattle.std.specs.Map.{lookup}
use Rattle.std.specs.Option.{unwrap_or}
use Rattle.std.specs.BTreeMap.{is_at}
use Rattle.std.proofs.lemmas.Bool.{cases_eq, cond_both, cond-false, and_parts, false_from_ne_true}
use Rattle.std.proofs.lemmas.Bool.Decides.{Decides-int_eq}
use Rattle.std.proofs.lemmas.Cmp.{int_eq_equiv, int_cmp_total, then_total, on_total, eq_by_cmp_equiv, tied_itself}
use Rattle.std.proofs.lemmas.List.Elements.{All-nil, All-head, All-tail, All-contains, Contains-get_or, Contains-append_right}
use Rattle.std.proofs.lemmas.Map.Keys.{IsDistinct-from_sorted, sorted_head, sorted_tail}
use Rattle.std.proofs.lemmas.Map.Lookups.{CmpEqualImpliesEq, exact_pairs, exact_signed}
use Rattle.std.proofs.lemmas.Map.Views.{All-turn, Contains-from_lookup, lookup-from_Contains, tells_apart}
use Rattle.ca_plane.specs.declared.point.Point.{Point}
use Rattle.ca_plane.specs.Prelude.{Picture, IsPicture, cell, IsSame, IsLive, Sets, point_cmp, IsInPlane, IsSparse}

-- points are in one order, row by row
pub point_cmp_total : IsTotalOrder point_cmp
point_cmp_total = then_total (on_total (λ (p : Point). p.y) int_cmp_total) (on_total (λ (p : Point). p.x) int_cmp_total)

-- and points that compare equal are the same
pub point_cmp_exact : CmpEqualImpliesEq point_cmp
point_cmp_exact p q e =
    let both : (p.y, p.x) ≡ (q.y, q.x) = exact_pairs int_cmp int_cmp exact_signed exact_signed (p.y, p.x) (q.y, q.x) e in
    ap (λ (c : ℤ × ℤ). let at : Point = record { y = c.0; x = c.1 } in at) both

-- a place passes a point's test exactly at the point
pub place-from_true : (x y : ℤ) (at : Point) → (int_eq y at.y && int_eq x at.x) ≡ true → (y ≡ at.y) × (x ≡ at.x)
place-from_true x y at e =
    let both = and_parts (int_eq y at.y) (int_eq x at.x) e in
    ((Decides-int_eq y at.y).0 both.0, (Decides-int_eq x at.x).0 both.1)

int_eq-other : (x y : ℤ) (at : Point) → (y ≡ at.y → x ≡ at.x → ⊥) → (int_eq y at.y && int_eq x at.x) ≡ false
int_eq-other x y at other = false_from_ne_true _ (λ e. let place = place-from_true x y at e in other place.0 place.1)

-- the empty picture is sparse
pub IsSparse-none : IsSparse []
unfolding IsStrictlySortedBy
IsSparse-none = record { states = All-nil _; places = All-nil _; rising = tt }

-- a test decides alike between two states and between what look-ups found
pub unwrap_or-cond : (s t : Bool) (v rest : ℕ) (w o : Option ℕ) → s ≡ t → v ≡ unwrap_or w 0 → rest ≡ unwrap_or o 0 → (if s then v else rest) ≡ unwrap_or (cond t w o) 0
unwrap_or-cond true true v rest w o e g h = g
unwrap_or-cond true false v rest w o e g h = cc
unwrap_or-cond false true v rest w o e g h = cc
unwrap_or-cond false false v rest w o e g h = h

-- a cell is what a look-up of its point finds
pub cell-lookup : (p : Picture) (at : Point) → cell p at.x at.y ≡ unwrap_or (lookup (is_at (point_cmp at)) p) 0
cell-lookup [] at = refl
cell-lookup (e ∷ es) at = unwrap_or-cond _ _ e.1 _ (Some e.1) _ (tied_then (int_cmp at.y e.0.y) (int_cmp at.x e.0.x)) refl (cell-lookup es at)

-- the first cell of a picture
pub cell-first : (e : Point × ℕ) (es : Picture) → cell (e ∷ es) e.0.x e.0.y ≡ e.1
cell-first e es = rw (int_eq_equiv.refl e.0.y, int_eq_equiv.refl e.0.x) refl

-- a picture that lists a cell is live
pub live_from_nonempty : (p : Picture) → IsPicture p → p ≢ [] → IsLive p
live_from_nonempty [] states some = absurd (some refl)
live_from_nonempty (e ∷ es) states some = (e.0.x, e.0.y, λ h. let low : 1 ≤ e.1 = (states 0 e (omega arith)).0 in omega (arith, sym (cell-first e es) ∙ h))

-- ---- the cells that a picture lists

-- each listed cell is shown, where the points rise
pub cell-Contains : (p : Picture) (e : Point × ℕ) → IsSparse p → Contains p e → cell p e.0.x e.0.y ≡ e.1
cell-Contains p e sparse has =
    cell-lookup p e.0
    ∙ ap (λ o. unwrap_or o 0) (lookup-from_Contains (eq_by_cmp_equiv point_cmp_total) e.0 e.1 p (IsDistinct-from_sorted point_cmp _ sparse.rising) has)

-- the same of all of them
pub cell-listed : (p : Picture) → IsSparse p → All (λ e. cell p e.0.x e.0.y ≡ e.1) p
cell-listed p sparse = λ k d l. cell-Contains p (get_or p k d) sparse (Contains-get_or p k d l)

-- what a look-up found, where its state isn't 0
lookup-from_unwrap_or : (o : Option ℕ) (s : ℕ) → s ≡ unwrap_or o 0 → s ≢ 0 → o ≡ Some s
lookup-from_unwrap_or None s e h = absurd (h e)
lookup-from_unwrap_or (Some v) s e h = ap Some (sym e)

-- a cell that isn't 0 is listed, with its point
pub Contains-cell : (p : Picture) (x y : ℤ) → cell p x y ≢ 0 → Contains p (record { y = y; x = x }, cell p x y)
Contains-cell p x y h =
    let at : Point = record { y = y; x = x } in
    Contains-from_lookup (tells_apart point_cmp_exact) at (cell p x y) p (lookup-from_unwrap_or _ _ (cell-lookup p at) h)

-- what holds of 0 and of each listed state holds of every cell
pub cell-All : (P : ℕ → Type 0) (p : Picture) (x y : ℤ) → P 0 → All (λ e. P e.1) p → P (cell p x y)
cell-All P [] x y none all = none
cell-All P (e ∷ es) x y none all =
    cond_both (int_eq y e.0.y && int_eq x e.0.x) e.1 (cell es x y) P (λ _. All-head (λ (f : Point × ℕ). P f.1) e es all) (λ _. cell-All P es x y none (All-tail (λ (f : Point × ℕ). P f.1) e es all))

-- ---- live

-- a picture that isn't live shows 0 everywhere
pub cell-from_not_live : (p : Picture) → (IsLive p → ⊥) → (x y : ℤ) → cell p x y ≡ 0
cell-from_not_live p dead x y = elim (cases_eq (cell p x y) 0) [ inl e ↦ e | inr h ↦ absurd (dead (x, y, h)) ]

-- ---- a `for` over the cells of a plane

-- what holds of each cell that a sparse picture lists
pub record IsListed (p : Picture) (e : Point × ℕ) : Type 0 where
  pub shown : cell p e.0.x e.0.y ≡ e.1
  pub low : 1 ≤ e.1
  pub high : e.1 ≤ 255
  pub within : IsInPlane e.0

pub IsListed-all : (p : Picture) → IsSparse p → All (IsListed p) p
IsListed-all p sparse = λ k d l. record {
  shown = cell-listed p sparse k d l;
  low = (sparse.states k d l).0;
  high = (sparse.states k d l).1;
  within = sparse.places k d l;
}

-- a cell in the middle is listed
pub IsListed-at : (p xs t : Picture) (e : Point × ℕ) → IsSparse p → p ≡ xs ++ e ∷ t → IsListed p e
IsListed-at p xs t e sparse split =
    All-contains (IsListed p) p e (IsListed-all p sparse) (subst (λ (q : Picture). Contains q e) (sym split) (Contains-append_right xs (e ∷ t) e (0, omega arith, refl)))

-- the item of a turn is listed
pub IsListed-turn : (p xs s t u : Picture) (r : Option (Point × ℕ)) (e : Point × ℕ) → IsSparse p → s ≡ p → Yields (YieldsFirst (λ c. c)) s xs t → r ≡ Some e → YieldsFirst (λ c. c) t r u → IsListed p e
IsListed-turn p xs s t u r e sparse start yields some step = All-turn (λ e. e) (IsListed p) p xs s t u r e (IsListed-all p sparse) start yields some step

-- the cells so far, and those that are left
pub cells_so_far : (p xs s t : Picture) → s ≡ p → Yields (YieldsFirst (λ c. c)) s xs t → p ≡ xs ++ t
cells_so_far p xs s t start yields = sym start ∙ rest_so_far (λ e. e) xs s t yields ∙ ap (λ ys. ys ++ t) (map-id xs)

-- the cells before the item of a turn, the item, and those after it
pub cells_turn : (p xs s t u : Picture) (r : Option (Point × ℕ)) (e : Point × ℕ) → s ≡ p → Yields (YieldsFirst (λ c. c)) s xs t → r ≡ Some e → YieldsFirst (λ c. c) t r u → p ≡ xs ++ e ∷ u
cells_turn p xs s t u r e start yields some step = cells_so_far p xs s t start yields ∙ ap (λ ys. xs ++ ys) (rest_more (λ e. e) t u r e some step)

-- at the end all have come
pub cells_end : (p xs s t u : Picture) (r : Option (Point × ℕ)) → s ≡ p → Yields (YieldsFirst (λ c. c)) s xs t → r ≡ None → YieldsFirst (λ c. c) t r u → p ≡ xs
cells_end p xs s t u r start yields none step =
    cells_so_far p xs s t start yields ∙ ap (λ ys. xs ++ ys) (rest_all (λ e. e) t u r none step) ∙ append-nil xs

-- ---- writes, one after another

-- a write shows its state at its point
pub cell-Sets : (p q : Picture) (at : Point) (state : ℕ) → Sets p q at state → cell q at.x at.y ≡ state
cell-Sets p q at state sets = sets at.x at.y ∙ rw (int_eq_equiv.refl at.y, int_eq_equiv.refl at.x) refl

-- and leaves each other cell
pub cell-Sets-other : (p q : Picture) (at : Point) (state : ℕ) (x y : ℤ) → Sets p q at state → (y ≡ at.y → x ≡ at.x → ⊥) → cell q x y ≡ cell p x y
cell-Sets-other p q at state x y sets other = sets x y ∙ cond-false _ state (cell p x y) (int_eq-other x y at other)

-- the same write to pictures that are the same
pub IsSame-Sets : (p p' q q' : Picture) (at : Point) (state : ℕ) → Sets p p' at state → Sets q q' at state → IsSame p q → IsSame p' q'
IsSame-Sets p p' q q' at state one two same = λ x y.
    one x y ∙ ap (λ s. if int_eq y at.y && int_eq x at.x then state else s) (same x y) ∙ sym (two x y)

-- two tests of which one fails choose in either order
pub if-swap : (s t : Bool) (u v w z : ℕ) → (s ≡ true → t ≡ true → ⊥) → z ≡ (if t then u else w) → (if s then v else z) ≡ (if t then u else (if s then v else w))
if-swap true true u v w z apart e = absurd (apart refl refl)
if-swap true false u v w z apart e = refl
if-swap false true u v w z apart e = e
if-swap false false u v w z apart e = e

-- what holds of each point holds of one in the middle
pub point-middle : (P : Point → Type 0) (xs t : Picture) (e : Point × ℕ) → AllByRecursion P (map (λ f. f.0) (xs ++ e ∷ t)) → P e.0
point-middle P [] t e all = all.0
point-middle P (x ∷ xs) t e all = point-middle P xs t e all.1

-- points with the same coordinates are the same
pub point-same : (p q : Point) → p.y ≡ q.y → p.x ≡ q.x → p ≡ q
point-same p q e f =
    let along : record { y = p.y; x = p.x } ≡ record { y = q.y; x = q.x } = cc in along

-- no place is at two points of which one is below the other
pub apart-Less : (p q : Point) (x y : ℤ) → point_cmp p q ≡ Less → (int_eq y p.y && int_eq x p.x) ≡ true → (int_eq y q.y && int_eq x q.x) ≡ true → ⊥
apart-Less p q x y less one two =
    let a = place-from_true x y p one in
    let b = place-from_true x y q two in
    let same : p ≡ q = point-same p q (sym a.0 ∙ b.0) (sym a.1 ∙ b.1) in
    let tied : point_cmp p q ≡ Equal = subst (λ (r : Point). point_cmp p r ≡ Equal) same (tied_itself point_cmp_total p) in
    cc

-- one more cell at the end, where the points rise
cell-push : (xs t : Picture) (e : Point × ℕ) (x y : ℤ) → IsStrictlySortedBy point_cmp (map (λ f. f.0) (xs ++ e ∷ t)) → cell (xs ++ e ∷ []) x y ≡ (if int_eq y e.0.y && int_eq x e.0.x then e.1 else cell xs x y)
cell-push [] t e x y rising = refl
cell-push (f ∷ fs) t e x y rising =
    if-swap _ _ e.1 f.1 (cell fs x y) _
    (apart-Less f.0 e.0 x y (point-middle (λ q. point_cmp f.0 q ≡ Less) fs t e (sorted_head point_cmp _ _ rising)))
    (cell-push fs t e x y (sorted_tail point_cmp _ _ rising))

-- the next cell of a sparse picture, as a write to the cells before it
pub Sets-push : (p xs t : Picture) (e : Point × ℕ) → IsSparse p → p ≡ xs ++ e ∷ t → Sets xs (xs ++ e ∷ []) e.0 e.1
Sets-push p xs t e sparse split = λ x y.
    cell-push xs t e x y (subst (λ (q : Picture). IsStrictlySortedBy point_cmp (map (λ f. f.0) q)) split sparse.rising)

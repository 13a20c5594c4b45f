-- Two sparse planes that begin with the same cells.
use Rattle.std.proofs.Common.{◌≡◌, ◌≢◌, ℕ, ◌≤◌, [], ◌∷◌, ◌++◌, true, false, sym, refl, ap, ◌∙◌, subst, append_assoc, arith, Less, Equal, Greater}
use Rattle.std.specs.Ordering.{ordering_reverse}
use Rattle.std.proofs.lemmas.List.{append-nil}
use Rattle.ca_plane.specs.declared.point.Point.{Point}
use Rattle.ca_plane.specs.Prelude.{Picture, cell, IsSame, DifferAt, point_cmp, IsSparse}
use Rattle.ca_plane.specs.inner.Places.{ComeBehind}
use Rattle.ca_plane.proofs.Pictures.{IsListed-at, point_cmp_total, point_cmp_exact}
use Rattle.ca_plane.proofs.Rising.{Rises, ComeBehind-lower, entry-same}
use Rattle.ca_plane.proofs.Places.{before-of, behind-of, cell-gap}

-- the next cell of one differs where all that is left of the other comes after it
pub DifferAt-first : (p q xs u t : Picture) (e : Point × ℕ) → IsSparse p → p ≡ xs ++ e ∷ u → q ≡ xs ++ t → ComeBehind e.0 t → DifferAt p q e.0
DifferAt-first p q xs u t e sparse one two behind = λ same.
    let listed = IsListed-at p xs u e sparse one in
    let shown : cell p e.0.x e.0.y ≡ e.1 = listed.shown in
    let low : 1 ≤ e.1 = listed.low in
    let empty : cell q e.0.x e.0.y ≡ 0 = ap (λ (r : Picture). cell r e.0.x e.0.y) two ∙ cell-gap xs t e.0 (before-of xs u e (subst Rises one sparse.rising)) behind in
    let zero_there : e.1 ≡ 0 = sym shown ∙ same ∙ empty in
    omega arith

-- it does where the other has no cell left
pub DifferAt-end : (p q xs u t : Picture) (e : Point × ℕ) → IsSparse p → p ≡ xs ++ e ∷ u → q ≡ xs ++ t → t ≡ [] → DifferAt p q e.0
DifferAt-end p q xs u t e sparse one two none = DifferAt-first p q xs u t e sparse one two (rw none tt)

-- and where the other's next cell comes after it
pub DifferAt-less : (p q xs u t v : Picture) (e f : Point × ℕ) → IsSparse p → IsSparse q → p ≡ xs ++ e ∷ u → q ≡ xs ++ t → t ≡ f ∷ v → point_cmp e.0 f.0 ≡ Less → DifferAt p q e.0
DifferAt-less p q xs u t v e f sparse sparse' one two next less =
    let parts : q ≡ xs ++ f ∷ v = two ∙ ap (λ (l : Picture). xs ++ l) next in
    DifferAt-first p q xs u (f ∷ v) e sparse one parts (less, ComeBehind-lower e.0 f.0 v less (behind-of xs v f (subst Rises parts sparse'.rising)))

-- the other's next cell differs where it comes before
pub DifferAt-greater : (p q xs u t v : Picture) (e f : Point × ℕ) → IsSparse p → IsSparse q → p ≡ xs ++ e ∷ u → q ≡ xs ++ t → t ≡ f ∷ v → point_cmp e.0 f.0 ≡ Greater → DifferAt p q f.0
DifferAt-greater p q xs u t v e f sparse sparse' one two next greater =
    let parts : q ≡ xs ++ f ∷ v = two ∙ ap (λ (l : Picture). xs ++ l) next in
    let less : point_cmp f.0 e.0 ≡ Less = point_cmp_total.antisymm f.0 e.0 ∙ ap ordering_reverse greater in
    let other = DifferAt-less q p xs v (e ∷ u) u f e sparse' sparse parts one refl less in
    λ same. other (sym same)

-- two cells at one point differ where their states do
pub DifferAt-states : (p q xs u t v : Picture) (e f : Point × ℕ) → IsSparse p → IsSparse q → p ≡ xs ++ e ∷ u → q ≡ xs ++ t → t ≡ f ∷ v → point_cmp e.0 f.0 ≡ Equal → e.1 ≢ f.1 → DifferAt p q e.0
DifferAt-states p q xs u t v e f sparse sparse' one two next tied apart = λ same.
    let parts : q ≡ xs ++ f ∷ v = two ∙ ap (λ (l : Picture). xs ++ l) next in
    let at : f.0 ≡ e.0 = sym (point_cmp_exact e.0 f.0 tied) in
    let other : cell q e.0.x e.0.y ≡ f.1 = subst (λ (r : Point). cell q r.x r.y ≡ f.1) at (IsListed-at q xs v f sparse' parts).shown in
    apart (sym (IsListed-at p xs u e sparse one).shown ∙ same ∙ other)

-- a cell after all of the other's differs
pub DifferAt-longer : (p q t u : Picture) (e : Point × ℕ) → IsSparse q → q ≡ p ++ t → t ≡ e ∷ u → DifferAt p q e.0
DifferAt-longer p q t u e sparse two next =
    let parts : q ≡ p ++ e ∷ u = two ∙ ap (λ (l : Picture). p ++ l) next in
    let other = DifferAt-first q p p u [] e sparse parts (sym (append-nil p)) tt in
    λ same. other (sym same)

-- one more cell in common
pub common_more : (q xs t v : Picture) (e f : Point × ℕ) → q ≡ xs ++ t → t ≡ f ∷ v → point_cmp e.0 f.0 ≡ Equal → e.1 ≡ f.1 → q ≡ (xs ++ e ∷ []) ++ v
common_more q xs t v e f two next tied state =
    two ∙ ap (λ (l : Picture). xs ++ l) (next ∙ ap (λ (g : Point × ℕ). g ∷ v) (sym (entry-same e f (point_cmp_exact e.0 f.0 tied) state))) ∙ sym (append_assoc xs (e ∷ []) v)

-- where a point is reported, the planes aren't the same
pub told : (p q : Picture) (at : Point) → DifferAt p q at → (true ≡ false → IsSame p q) × (IsSame p q → true ≡ false)
told p q at differ =
    let no : true ≡ false → IsSame p q = λ e. cc in
    (no, λ same. absurd (differ (same at.x at.y)))

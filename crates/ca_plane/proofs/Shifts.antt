-- Pictures that are moved, cell by cell.
use Rattle.std.proofs.Common.{◌≡◌, ℕ, ◌≤◌, [], ◌∷◌, true, false, Result, Ok, Err, sym, refl, ◌∙◌, arith, Ordering, Less, Equal, Greater}
use Rattle.std.specs.Prelude.{ℤ, ◌+ℤ◌, ◌-ℤ◌, ◌<ℤ◌}
use Rattle.std.specs.Result.{IsErrAnd, IsErrOf}
use Rattle.std.specs.Ordering.{int_eq, int_cmp, MatchOrdering}
use Rattle.std.specs.List.Sorted.{IsStrictlySortedBy}
use Rattle.std.proofs.lemmas.Cmp.{int_ranked}
use Rattle.std.proofs.lemmas.Bool.Decides.{Decides-int_eq, same_from_decides}
use Rattle.std.proofs.lemmas.Int.{ints}
use Rattle.std.proofs.lemmas.List.Elements.{All-contains, All-map}
use Rattle.ca_plane.specs.declared.{point.Point.Point, memory.MoveFault.MoveFault}
use Rattle.ca_plane.specs.declared.memory.MoveFault.TheVariants.{Memory, Range}
use Rattle.ca_plane.specs.Prelude.{Picture, cell, shifted, IsInPlane, IsSparse, point_cmp, moved, LeavesPlane}
use Rattle.ca_plane.specs.inner.Places.{ComeBehind}
use Rattle.ca_plane.proofs.Rising.{Rises}
use Rattle.ca_plane.specs.inner.Moves.{StaysInPlane}
use Rattle.ca_plane.proofs.Pictures.{Contains-cell, IsListed}

-- no test both holds and fails
false_ne_true : false ≡ true → ⊥
false_ne_true e =
    let no : ⊥ = cc in no

-- a number is one that was moved just where it is that one, moved back
int_eq-moved : (x a d : ℤ) → int_eq x (a +ℤ d) ≡ int_eq (x -ℤ d) a
int_eq-moved x a d =
    let back : (x -ℤ d ≡ a) → x ≡ a +ℤ d = λ e. omega (arith, ints) in
    let there : x ≡ a +ℤ d → x -ℤ d ≡ a = λ e. omega (arith, ints) in
    same_from_decides {P = x ≡ a +ℤ d} _ _ (Decides-int_eq x (a +ℤ d)) (λ t. back ((Decides-int_eq (x -ℤ d) a).0 t), λ e. (Decides-int_eq (x -ℤ d) a).1 (there e))

-- a cell of a moved picture is the one that was moved there
pub cell-shifted : (p : Picture) (dx dy x y : ℤ) → cell (shifted p dx dy) x y ≡ cell p (x -ℤ dx) (y -ℤ dy)
cell-shifted [] dx dy x y = refl
cell-shifted (e ∷ es) dx dy x y = rw (int_eq-moved y e.0.y dy, int_eq-moved x e.0.x dx, cell-shifted es dx dy x y) refl

-- ---- a `for` over the cells of a plane

-- where a listed cell isn't tested to stay, one leaves
pub LeavesPlane-listed : (p : Picture) (e : Point × ℕ) (dx dy : ℤ) → IsListed p e → (IsInPlane (moved e.0 dx dy) → false ≡ true) → LeavesPlane p dx dy
LeavesPlane-listed p e dx dy listed out =
    let low : 1 ≤ e.1 = listed.low in
    (e.0.x, e.0.y, λ z. let none : e.1 ≡ 0 = sym listed.shown ∙ z in omega arith, λ q. let no : false ≡ true = out q in absurd (false_ne_true no))

-- where all of them stay, none leaves
pub not_LeavesPlane : (p : Picture) (dx dy : ℤ) → StaysInPlane p dx dy → LeavesPlane p dx dy → ⊥
not_LeavesPlane p dx dy stays leaves = leaves.3 (All-contains (λ e. IsInPlane (moved e.0 dx dy)) p _ stays (Contains-cell p leaves.0 leaves.1 leaves.2))

-- out of memory is no fault of range
pub not_Range : {T : Type 0} (r : Result T MoveFault) → IsErrAnd r (λ f. f ≡ Memory) → IsErrOf r Range → ⊥
not_Range (Ok t) memory range =
    let no : ⊥ = cc in no
not_Range (Err f) memory range =
    let no : ⊥ = cc in no

-- nor is a plane
pub not_Err : {T E : Type 0} (t : T) (e : E) → IsErrOf (Ok t) e → ⊥
not_Err t e range =
    let no : ⊥ = cc in no

-- ---- moved pictures stay sparse

-- numbers compare as they do when both are moved
int_cmp-moved : (a b d : ℤ) → int_cmp (a +ℤ d) (b +ℤ d) ≡ int_cmp a b
int_cmp-moved a b d = same-order (int_cmp (a +ℤ d) (b +ℤ d)) (int_cmp a b) (int_ranked (a +ℤ d) (b +ℤ d) _ refl) (int_ranked a b _ refl)
  where
    same-order : (o p : Ordering) → MatchOrdering o ((a +ℤ d) <ℤ (b +ℤ d)) (a +ℤ d ≡ b +ℤ d) ((b +ℤ d) <ℤ (a +ℤ d)) → MatchOrdering p (a <ℤ b) (a ≡ b) (b <ℤ a) → o ≡ p
    same-order Less Less h k = refl
    same-order Less Equal h k = absurd (omega (arith, ints))
    same-order Less Greater h k = absurd (omega (arith, ints))
    same-order Equal Less h k = absurd (omega (arith, ints))
    same-order Equal Equal h k = refl
    same-order Equal Greater h k = absurd (omega (arith, ints))
    same-order Greater Less h k = absurd (omega (arith, ints))
    same-order Greater Equal h k = absurd (omega (arith, ints))
    same-order Greater Greater h k = refl

-- and so do points
point_cmp-moved : (p q : Point) (dx dy : ℤ) → point_cmp (moved p dx dy) (moved q dx dy) ≡ point_cmp p q
point_cmp-moved p q dx dy = rw (int_cmp-moved p.y q.y dy, int_cmp-moved p.x q.x dx) refl

ComeBehind-moved : (at : Point) (p : Picture) (dx dy : ℤ) → ComeBehind at p → ComeBehind (moved at dx dy) (shifted p dx dy)
ComeBehind-moved at [] dx dy behind = tt
ComeBehind-moved at (e ∷ es) dx dy behind = (point_cmp-moved at e.0 dx dy ∙ behind.0, ComeBehind-moved at es dx dy behind.1)

Rises-moved : (p : Picture) (dx dy : ℤ) → Rises p → Rises (shifted p dx dy)
unfolding IsStrictlySortedBy
Rises-moved [] dx dy rises = tt
Rises-moved (e ∷ es) dx dy rises = (ComeBehind-moved e.0 es dx dy rises.0, Rises-moved es dx dy rises.1)

pub IsSparse-shifted : (p : Picture) (dx dy : ℤ) → IsSparse p → StaysInPlane p dx dy → IsSparse (shifted p dx dy)
IsSparse-shifted p dx dy sparse stays = record {
  states = All-map (λ (e : Point × ℕ). (1 ≤ e.1) × (e.1 ≤ 255)) (λ (e : Point × ℕ). (moved e.0 dx dy, e.1)) p sparse.states;
  places = All-map (λ (e : Point × ℕ). IsInPlane e.0) (λ (e : Point × ℕ). (moved e.0 dx dy, e.1)) p stays;
  rising = Rises-moved p dx dy sparse.rising;
}

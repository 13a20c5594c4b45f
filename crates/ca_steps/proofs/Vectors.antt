-- Which vectors move a picture onto another.
use Rattle.std.proofs.Common.{◌≡◌, ◌≢◌, ℕ, zero, suc, ◌+◌, ◌≤◌, [], ◌∷◌, sym, ◌∙◌, arith, ap₂}
use Rattle.std.specs.Prelude.{ℤ, pos, neg_ℤ, ◌+ℤ◌, ◌-ℤ◌, ◌≤ℤ◌}
use Rattle.std.specs.List.{All}
use Rattle.std.proofs.lemmas.Int.{ints, by_lt_z}
use Rattle.std.proofs.lemmas.List.Elements.{All-nil, All-cons, All-weaker, All-contains}
use borrow.Author.Differences.{up, down}
use Rattle.ca_plane.specs.declared.point.Point.{Point}
use Rattle.ca_plane.specs.Prelude.{Picture, cell, IsSame, shifted, IsLive, moved}
use Rattle.ca_plane.proofs.Pictures.{Contains-cell}
use Rattle.ca_plane.proofs.Shifts.{cell-shifted}

-- ---- a live cell, moved

-- where q is p moved, each live cell of q was live in p before the move
pub live-before : (p q : Picture) (dx dy x y : ℤ) → IsSame q (shifted p dx dy) → cell q x y ≢ 0 → cell p (x -ℤ dx) (y -ℤ dy) ≢ 0
live-before p q dx dy x y same live = λ z. live (same x y ∙ cell-shifted p dx dy x y ∙ z)

-- and each live cell of p is live in q after the move
pub live-moved : (p q : Picture) (dx dy x y : ℤ) → IsSame q (shifted p dx dy) → cell p x y ≢ 0 → cell q (x +ℤ dx) (y +ℤ dy) ≢ 0
live-moved p q dx dy x y same live = λ z.
    let bx : (x +ℤ dx) -ℤ dx ≡ x = omega (arith, ints) in
    let by : (y +ℤ dy) -ℤ dy ≡ y = omega (arith, ints) in
    live (sym (ap₂ (cell p) bx by) ∙ sym (cell-shifted p dx dy (x +ℤ dx) (y +ℤ dy)) ∙ sym (same (x +ℤ dx) (y +ℤ dy)) ∙ z)

-- ---- no vector but (0, 0)

-- both coordinates of the point are from -b to b
abbrev IsPointWithin : ℕ → Point → Type 0
IsPointWithin b at = (neg_ℤ (pos b) ≤ℤ at.x) × (at.x ≤ℤ pos b) × (neg_ℤ (pos b) ≤ℤ at.y) × (at.y ≤ℤ pos b)

-- and so from -c to c, where c is no less
IsPointWithin-more : (b c : ℕ) (at : Point) → b ≤ c → IsPointWithin b at → IsPointWithin c at
IsPointWithin-more b c at more within = (omega (arith, ints, within), omega (arith, ints, within), omega (arith, ints, within), omega (arith, ints, within))

-- a point is within the sum of its coordinates, whatever their signs
IsPointWithin-point : (b : ℕ) (at : Point) → IsPointWithin (b + (up at.x + down at.x + (up at.y + down at.y))) at
IsPointWithin-point b at = (omega (arith, ints), omega (arith, ints), omega (arith, ints), omega (arith, ints))

-- the points of a picture are within some number, since it is a finite list
within : (p : Picture) → (b : ℕ) × All (λ e. IsPointWithin b e.0) p
within [] = (0, All-nil _)
within (e ∷ es) =
    let rest = within es in
    let b : ℕ = rest.0 + (up e.0.x + down e.0.x + (up e.0.y + down e.0.y)) in
    (b, All-cons (λ f. IsPointWithin b f.0) e es (IsPointWithin-point rest.0 e.0) (All-weaker (λ f. IsPointWithin rest.0 f.0) (λ f. IsPointWithin b f.0) (λ f. IsPointWithin-more rest.0 b f.0 (omega arith)) es rest.1))

-- what goes on to something higher, and is never above a limit, isn't there
no_climb : {X : Type 0} (P : X → Type 0) (height : X → ℤ) (next : X → X) (top : ℤ) → ((a : X) → P a → P (next a)) → ((a : X) → (height a +ℤ pos 1) ≤ℤ height (next a))
    → ((a : X) → P a → height a ≤ℤ top) → (n : ℕ) (a : X) → P a → (top +ℤ pos 1) ≤ℤ (height a +ℤ pos n) → ⊥
no_climb P height next top on rises below zero a has above = omega (arith, ints, below a has)
no_climb P height next top on rises below (suc n) a has above =
    no_climb P height next top on rises below n (next a) (on a has) (omega (arith, ints, rises a))

-- a picture has no live cells that go on to ever higher ones
no_end : (p : Picture) (height : Point → ℤ) (next : Point → Point) → ((at : Point) → cell p at.x at.y ≢ 0 → cell p (next at).x (next at).y ≢ 0)
    → ((at : Point) → (height at +ℤ pos 1) ≤ℤ height (next at)) → ((b : ℕ) (at : Point) → IsPointWithin b at → (neg_ℤ (pos b) ≤ℤ height at) × (height at ≤ℤ pos b)) → IsLive p → ⊥
no_end p height next on rises height_within live =
    let b : ℕ = (within p).0 in
    let all : (at : Point) → cell p at.x at.y ≢ 0 → IsPointWithin b at = λ at here. All-contains (λ e. IsPointWithin b e.0) p (at, cell p at.x at.y) (within p).1 (Contains-cell p at.x at.y here) in
    let start : Point = record { y = live.1; x = live.0 } in
    let low : neg_ℤ (pos b) ≤ℤ height start = (height_within b start (all start live.2)).0 in
    no_climb (λ (at : Point). cell p at.x at.y ≢ 0) height next (pos b) on rises (λ at here. (height_within b at (all at here)).1) (b + b + 1) start live.2 (omega (arith, ints))

-- a number that is neither above 0 nor below is 0
zero_between : (d : ℤ) → (pos 1 ≤ℤ d → ⊥) → ((d +ℤ pos 1) ≤ℤ pos 0 → ⊥) → d ≡ pos 0
zero_between d above below =
    by_lt_z (pos 0) d (λ h. absurd (above (omega (arith, ints)))) (λ h. by_lt_z d (pos 0) (λ k. absurd (below (omega (arith, ints)))) (λ k. omega (arith, ints)))

-- the point before it was moved by (dx, dy)
abbrev moved_back : Point → ℤ → ℤ → Point
moved_back at dx dy = record { y = at.y -ℤ dy; x = at.x -ℤ dx }

-- a live picture is moved onto itself by (0, 0) alone
pub no_vector : (p : Picture) (dx dy : ℤ) → IsLive p → IsSame p (shifted p dx dy) → (dx ≡ pos 0) × (dy ≡ pos 0)
no_vector p dx dy live same =
    let on : (at : Point) → cell p at.x at.y ≢ 0 → cell p (moved at dx dy).x (moved at dx dy).y ≢ 0 = λ at here. live-moved p p dx dy at.x at.y same here in
    let back : (at : Point) → cell p at.x at.y ≢ 0 → cell p (moved_back at dx dy).x (moved_back at dx dy).y ≢ 0 = λ at here. live-before p p dx dy at.x at.y same here in (
      zero_between dx
          (λ h. no_end p (λ at. at.x) (λ at. moved at dx dy) on (λ at. omega (arith, ints)) (λ b at near. (near.0, near.1)) live)
          (λ h. no_end p (λ at. at.x) (λ at. moved_back at dx dy) back (λ at. omega (arith, ints)) (λ b at near. (near.0, near.1)) live),
      zero_between dy
          (λ h. no_end p (λ at. at.y) (λ at. moved at dx dy) on (λ at. omega (arith, ints)) (λ b at near. (near.2, near.3)) live)
          (λ h. no_end p (λ at. at.y) (λ at. moved_back at dx dy) back (λ at. omega (arith, ints)) (λ b at near. (near.2, near.3)) live),
    )

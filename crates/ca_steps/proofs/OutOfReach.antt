-- Cells that are in reach of a step, and those that are not; and what steps come to.
use Rattle.std.proofs.Common.{◌≡◌, ℕ, ◌+◌, ◌<◌, ◌≤◌, List, [], ◌∷◌, length, refl, sym, ap, ◌∙◌, subst, arith, true, false, get_or, below_more}
use Rattle.std.specs.Prelude.{ℤ, Result, Ok, Err, IsErrAnd}
use Rattle.std.specs.List.{All, AllByRecursion}
use Rattle.std.proofs.lemmas.List.Elements.{All-contains, All-cons, All-nil}
use Rattle.ca_plane.specs.declared.point.Point.{Point}
use Rattle.ca_plane.specs.Prelude.{Picture, cell, around, IsAfter, IsSparse}
use Rattle.ca_plane.proofs.Pictures.{IsListed, Contains-cell, cell-listed, cell-All}
use Rattle.ca_steps.specs.Prelude.{IsInReach, LeavesReach, LeavesReachBefore, HasStates, IsStepped, Steps}
use Rattle.ca_steps.specs.declared.fault.RunFault.{RunFault}
use Rattle.ca_steps.specs.declared.fault.RunFault.TheVariants.{Range}
use Rattle.ca_steps.specs.inner.OutOfReach.{IsOutOfReach}
use Rattle.ca_steps.proofs.Returns.{after_stands}

-- a listed cell out of reach is live there
pub IsOutOfReach-listed : (p : Picture) (e : Point × ℕ) → IsListed p e → (IsInReach e.0.x e.0.y → false ≡ true) → IsOutOfReach p
IsOutOfReach-listed p e listed out =
    let low : 1 ≤ e.1 = listed.low in
    (e.0.x, e.0.y, λ z. let none : e.1 ≡ 0 = sym listed.shown ∙ z in omega arith, λ q. let no : false ≡ true = out q in cc)

-- where all listed cells are in reach, none is out of it
pub not_IsOutOfReach : (p : Picture) → All (λ e. IsInReach e.0.x e.0.y) p → IsOutOfReach p → ⊥
not_IsOutOfReach p reach out = out.3 (All-contains (λ e. IsInReach e.0.x e.0.y) p _ reach (Contains-cell p out.0 out.1 out.2))

all_of : (P : ℕ → Type 0) (xs : List ℕ) → AllByRecursion P xs → All P xs
all_of P [] all = All-nil P
all_of P (x ∷ xs) all = All-cons P x xs all.0 (all_of P xs all.1)

-- what holds of each cell holds of nine cells round a place
around_all : (P : ℕ → Type 0) (f : ℤ → ℤ → ℕ) (x y : ℤ) → ((a b : ℤ) → P (f a b)) → All P (around f x y)
around_all P f x y h = all_of P (around f x y) (h _ _, (h _ _, (h _ _, (h _ _, (h _ _, (h _ _, (h _ _, (h _ _, (h _ _, tt)))))))))

-- a sparse picture that shows states below n lists such states
pub all_below : (p : Picture) (n : ℕ) → IsSparse p → ((x y : ℤ) → cell p x y < n) → HasStates n p
all_below p n sparse below = λ k d l. let e = get_or p k d in subst (λ s. s < n) (cell-listed p sparse k d l) (below e.0.x e.0.y)

-- a sparse picture that shows the next states lists states below n, where states below n lead to states below n
pub states_after : (next : List ℕ → ℕ) (p q : Picture) (n : ℕ)
    → ((nine : List ℕ) → length nine ≡ 9 → All (λ s. s < n) nine → next nine < n)
    → 0 < n → HasStates n p → IsSparse q → IsAfter next p 1 q → HasStates n q
states_after next p q n closed some states sparse shows =
    all_below q n sparse (λ x y.
    let below = around_all (λ s. s < n) (cell p) x y (λ a b. cell-All (λ s. s < n) p a b some states) in
    subst (λ s. s < n) (shows x y) (closed (around (cell p) x y) refl below))

-- ---- generations, one after another

-- one generation after n generations makes n + 1 generations
pub after_one_more : (next : List ℕ → ℕ) (p q r : Picture) (n : ℕ) → IsAfter next p n q → IsAfter next q 1 r
    → IsAfter next p (n + 1) r
after_one_more next p q r n shows one x y = sym (after_stands next p q n 1 shows x y) ∙ one x y

-- what leaves the reach after n generations
pub LeavesReach-after : (next : List ℕ → ℕ) (p q : Picture) (n : ℕ) → IsAfter next p n q
    → LeavesReach next q 0 → LeavesReach next p n
LeavesReach-after next p q n shows leaves =
    (leaves.0, leaves.1, λ z. leaves.2 (sym (shows leaves.0 leaves.1) ∙ z), leaves.3)

-- and back
pub LeavesReach-from_after : (next : List ℕ → ℕ) (p q : Picture) (n : ℕ) → IsAfter next p n q
    → LeavesReach next p n → LeavesReach next q 0
LeavesReach-from_after next p q n shows leaves =
    (leaves.0, leaves.1, λ z. leaves.2 (shows leaves.0 leaves.1 ∙ z), leaves.3)

-- what leaves the reach before one step leaves it at once
pub leaves_at_once : (next : List ℕ → ℕ) (p : Picture) → LeavesReachBefore next p 1 → LeavesReach next p 0
leaves_at_once next p leaves =
    let zero_only : leaves.0 ≡ 0 = omega (arith, leaves.1) in
    subst (LeavesReach next p) zero_only leaves.2

-- where none leaves the reach before n steps, and none does then, none does before one step more
pub within_one_more : (next : List ℕ → ℕ) (p : Picture) (n : ℕ) → (LeavesReachBefore next p n → ⊥)
    → (LeavesReach next p n → ⊥) → LeavesReachBefore next p (n + 1) → ⊥
within_one_more next p n before now leaves =
    below_more (λ m. LeavesReach next p m → ⊥) n (λ m less then. before (m, less, then)) now
    leaves.0 leaves.1 leaves.2

-- where a step after m generations leaves the reach, more than m steps leave it
pub LeavesReachBefore-after : (next : List ℕ → ℕ) (p q : Picture) (m n : ℕ) → m < n → IsAfter next p m q
    → LeavesReachBefore next q 1 → LeavesReachBefore next p n
LeavesReachBefore-after next p q m n less shows leaves =
    (m, less, LeavesReach-after next p q m shows (leaves_at_once next q leaves))

-- ---- what a call comes to that steps a plane

-- Ok where no step leaves the reach
pub Steps-ok : (next : List ℕ → ℕ) (count : ℕ) (p : Picture) (n : ℕ) (q : Picture)
    → IsStepped next count p n q → (LeavesReachBefore next p n → ⊥) → Steps next count p n (Ok q)
Steps-ok next count p n q stepped within = record {
  stepped = stepped;
  within = within;
  range = λ is. cc;
  judged = λ some leaves. absurd (within (0, some, leaves));
}

-- a fault that is `Range` only where a step leaves the reach, and where the first does
pub Steps-err : (next : List ℕ → ℕ) (count : ℕ) (p : Picture) (n : ℕ) (f : RunFault) (r : Result Picture RunFault)
    → IsErrAnd r (λ e. e ≡ f) → (f ≡ Range → LeavesReachBefore next p n)
    → (0 < n → LeavesReach next p 0 → f ≡ Range) → Steps next count p n r
Steps-err next count p n f (Ok q) passed range judged = absurd passed
Steps-err next count p n f (Err e) passed range judged = record {
  stepped = tt;
  within = tt;
  range = λ is. let far : f ≡ Range = cc in range far;
  judged = λ some leaves. ap Err (passed ∙ judged some leaves);
}

-- Planes and pictures that are back after some generations, moved by some vector.
use Rattle.std.proofs.Common.{◌≡◌, ℕ, zero, suc, ◌+◌, ◌*◌, ◌-◌, ◌≤◌, List, [], ◌∷◌, sym, ap, ap₂, ◌∙◌, arith, subst}
use Rattle.std.specs.Prelude.{ℤ, pos, ◌+ℤ◌, ◌-ℤ◌, ◌*ℤ◌}
use Rattle.std.specs.List.{All}
use Rattle.std.proofs.Math.Nat.{zero-mul, suc-mul}
use Rattle.std.proofs.Math.IntN.{suc_ℤ-*ℤ, zero-*ℤ}
use Rattle.std.proofs.lemmas.Nat.{mul-le}
use Rattle.std.proofs.lemmas.Int.{ints}
use Rattle.std.proofs.lemmas.List.Elements.{All-nil, All-cons, All-weaker, All-head, All-tail}
use Rattle.ca_plane.specs.Prelude.{Picture, cell, shifted, after, IsAfter, cells_after}
use Rattle.ca_plane.proofs.Shifts.{cell-shifted}
use Rattle.ca_plane.proofs.After.{after_same, after_seen, after_again}
use Rattle.ca_parts.specs.Prelude.{ComesBack}

-- after n generations the plane is as it was, moved by (u, v)
abbrev pub IsBackBy : (List ℕ → ℕ) → (ℤ → ℤ → ℕ) → ℕ → ℤ → ℤ → Type 0
IsBackBy next f n u v = (x y : ℤ) → cells_after next f n (x +ℤ u) (y +ℤ v) ≡ f x y

-- so it is by some vector
abbrev pub IsBackAt : (List ℕ → ℕ) → ℕ → Picture → Type 0
IsBackAt next n p = (u : ℤ) × (v : ℤ) × IsBackBy next (cell p) n u v

-- a picture that is there again, moved, is back by that vector,
pub IsBackBy-from_shifted : (next : List ℕ → ℕ) (p : Picture) (n : ℕ) (u v : ℤ) → IsAfter next p n (shifted p u v) → IsBackBy next (cell p) n u v
IsBackBy-from_shifted next p n u v back x y =
    let bx : (x +ℤ u) -ℤ u ≡ x = omega (arith, ints) in
    let by : (y +ℤ v) -ℤ v ≡ y = omega (arith, ints) in
    back (x +ℤ u) (y +ℤ v) ∙ cell-shifted p u v (x +ℤ u) (y +ℤ v) ∙ ap₂ (cell p) bx by

-- and one that is back by a vector is there again, moved
pub shifted-from_IsBackBy : (next : List ℕ → ℕ) (p : Picture) (n : ℕ) (u v : ℤ) → IsBackBy next (cell p) n u v → IsAfter next p n (shifted p u v)
shifted-from_IsBackBy next p n u v back x y =
    let bx : x ≡ (x -ℤ u) +ℤ u = omega (arith, ints) in
    let by : y ≡ (y -ℤ v) +ℤ v = omega (arith, ints) in
    ap₂ (after next p n) bx by ∙ back (x -ℤ u) (y -ℤ v) ∙ sym (cell-shifted p u v x y)

-- ---- generations after a return

-- a plane that is another one, seen from elsewhere, goes on as that one does
pub after_seen_so : (next : List ℕ → ℕ) (f g : ℤ → ℤ → ℕ) (u v : ℤ) → ((x y : ℤ) → g (x +ℤ u) (y +ℤ v) ≡ f x y) → (n : ℕ) (x y : ℤ) → cells_after next g n (x +ℤ u) (y +ℤ v) ≡ cells_after next f n x y
after_seen_so next f g u v seen n x y =
    let ax : (a : ℤ) → u +ℤ a ≡ a +ℤ u = λ a. omega (arith, ints) in
    let ay : (a : ℤ) → v +ℤ a ≡ a +ℤ v = λ a. omega (arith, ints) in
    ap₂ (cells_after next g n) (sym (ax x)) (sym (ay y)) ∙ sym (after_seen next g u v n x y)
    ∙ after_same next (λ a b. g (u +ℤ a) (v +ℤ b)) f n (λ a b. ap₂ g (ax a) (ay b) ∙ seen a b) x y

-- n generations after a return the plane is as n generations after the start, moved
pub after_return : (next : List ℕ → ℕ) (f : ℤ → ℤ → ℕ) (m : ℕ) (u v : ℤ) → IsBackBy next f m u v → (n : ℕ) (x y : ℤ) → cells_after next f (m + n) (x +ℤ u) (y +ℤ v) ≡ cells_after next f n x y
after_return next f m u v back n x y = sym (after_again next f m n (x +ℤ u) (y +ℤ v)) ∙ after_seen_so next f (cells_after next f m) u v back n x y

-- a plane that is back is back by k times the vector after k times as many generations
pub back_times : (next : List ℕ → ℕ) (f : ℤ → ℤ → ℕ) (m k : ℕ) (u v : ℤ) → IsBackBy next f m u v → IsBackBy next f (k * m) (pos k *ℤ u) (pos k *ℤ v)
back_times next f m zero u v back x y =
    let ax : x +ℤ (pos zero *ℤ u) ≡ x = rw (zero-*ℤ u) (omega (arith, ints)) in
    let ay : y +ℤ (pos zero *ℤ v) ≡ y = rw (zero-*ℤ v) (omega (arith, ints)) in
    ap (λ j. cells_after next f j (x +ℤ (pos zero *ℤ u)) (y +ℤ (pos zero *ℤ v))) (zero-mul m) ∙ ap₂ f ax ay
back_times next f m (suc k) u v back x y =
    let ax : x +ℤ (pos (suc k) *ℤ u) ≡ (x +ℤ (pos k *ℤ u)) +ℤ u = rw (suc_ℤ-*ℤ (pos k) u) (omega (arith, ints)) in
    let ay : y +ℤ (pos (suc k) *ℤ v) ≡ (y +ℤ (pos k *ℤ v)) +ℤ v = rw (suc_ℤ-*ℤ (pos k) v) (omega (arith, ints)) in
    let sum : suc k * m ≡ m + k * m = rw (suc-mul k m) (omega arith) in
    ap (λ j. cells_after next f j (x +ℤ (pos (suc k) *ℤ u)) (y +ℤ (pos (suc k) *ℤ v))) sum ∙ ap₂ (cells_after next f (m + k * m)) ax ay
    ∙ after_return next f m u v back (k * m) (x +ℤ (pos k *ℤ u)) (y +ℤ (pos k *ℤ v)) ∙ back_times next f m k u v back x y

-- ---- a common time

-- a picture that is back at some time is back at each multiple of it
pub IsBackAt-times : (next : List ℕ → ℕ) (m k l : ℕ) → l ≡ k * m → (p : Picture) → IsBackAt next m p → IsBackAt next l p
IsBackAt-times next m k l is p (u, v, back) =
    (pos k *ℤ u, pos k *ℤ v, subst (λ j. IsBackBy next (cell p) j (pos k *ℤ u) (pos k *ℤ v)) (sym is) (back_times next (cell p) m k u v back))

-- the product of two numbers that are at least 1, less 1
product : (m n : ℕ) → 1 ≤ m → 1 ≤ n → (l : ℕ) × (suc l ≡ m * n)
product m n once again = let some : 1 * 1 ≤ m * n = mul-le 1 1 m n once again in (m * n - 1, omega (arith, some))

-- pictures that come back are all back after a common number of generations
pub common_time : (next : List ℕ → ℕ) (ps : List Picture) → All (ComesBack next) ps → (l : ℕ) × All (IsBackAt next (suc l)) ps
common_time next [] back = (0, All-nil (IsBackAt next 1))
common_time next (p ∷ ps) back =
    let first = All-head (ComesBack next) p ps back in
    let (n, some, u, v, there) = first in
    let (m, all) = common_time next ps (All-tail (ComesBack next) p ps back) in
    let (l, is) = product n (suc m) some (omega arith) in
    let turned : suc l ≡ suc m * n = omega (arith, is) in (
      l,
      All-cons (IsBackAt next (suc l)) p ps
          (IsBackAt-times next n (suc m) (suc l) turned p (u, v, IsBackBy-from_shifted next p n u v there))
          (All-weaker (IsBackAt next (suc m)) (IsBackAt next (suc l)) (IsBackAt-times next (suc m) n (suc l) is) ps all),
    )

-- and so are those of two lists
pub common_time_of_both : (next : List ℕ → ℕ) (ps qs : List Picture) → All (ComesBack next) ps → All (ComesBack next) qs
    → (l : ℕ) × All (IsBackAt next (suc l)) ps × All (IsBackAt next (suc l)) qs
common_time_of_both next ps qs one two =
    let (m, all) = common_time next ps one in
    let (n, more) = common_time next qs two in
    let (l, is) = product (suc n) (suc m) (omega arith) (omega arith) in
    let turned : suc l ≡ suc m * suc n = omega (arith, is) in (
      l,
      All-weaker (IsBackAt next (suc m)) (IsBackAt next (suc l)) (IsBackAt-times next (suc m) (suc n) (suc l) is) ps all,
      All-weaker (IsBackAt next (suc n)) (IsBackAt next (suc l)) (IsBackAt-times next (suc n) (suc m) (suc l) turned) qs more,
    )

-- what comes back is as it was, moved, after some number of generations that is no less than n
pub back_late : (next : List ℕ → ℕ) (p : Picture) → ComesBack next p → (n : ℕ) → (k : ℕ) × (u : ℤ) × (v : ℤ) × IsBackBy next (cell p) (n + k) u v
back_late next p (m, some, u, v, there) n =
    let enough : n * 1 ≤ n * m = mul-le n 1 n m (omega arith) some in
    let sum : n * m ≡ n + (n * m - n) = omega (arith, enough) in
    (n * m - n, pos n *ℤ u, pos n *ℤ v, subst (λ j. IsBackBy next (cell p) j (pos n *ℤ u) (pos n *ℤ v)) sum (back_times next (cell p) m n u v (IsBackBy-from_shifted next p m u v there)))

-- A picture has finitely many points, so no cell drifts within it for ever.
use Rattle.std.proofs.Common.{◌≡◌, ◌≢◌, ℕ, zero, suc, ◌+◌, ◌≤◌, [], ◌∷◌, ◌&&◌, inl, inr, refl, ◌∙◌, arith}
use Rattle.std.specs.Prelude.{ℤ, pos, neg_ℤ, ◌+ℤ◌, ◌-ℤ◌, ◌*ℤ◌, ◌≤ℤ◌}
use Rattle.std.specs.Ordering.{int_eq}
use Rattle.std.proofs.Math.IntN.{suc_ℤ-*ℤ, zero-*ℤ}
use Rattle.std.proofs.lemmas.Bool.{cases_Bool, cond-false}
use Rattle.std.proofs.lemmas.Int.{ints, by_lt_z}
use borrow.Author.Differences.{up, down}
use Rattle.ca_plane.specs.Prelude.{Picture, cell}
use Rattle.ca_plane.proofs.Pictures.{place-from_true}

-- both coordinates are from -b to b
abbrev IsNear : ℕ → ℤ → ℤ → Type 0
IsNear b x y = (neg_ℤ (pos b) ≤ℤ x) × (x ≤ℤ pos b) × (neg_ℤ (pos b) ≤ℤ y) × (y ≤ℤ pos b)

-- the sum of the coordinates of a point, whatever their signs
abbrev size : ℤ → ℤ → ℕ
size x y = up x + down x + (up y + down y)

IsNear-itself : (b : ℕ) (x y u v : ℤ) → x ≡ u → y ≡ v → IsNear (b + size u v) x y
IsNear-itself b x y u v is are = (omega (arith, ints), omega (arith, ints), omega (arith, ints), omega (arith, ints))

IsNear-more : (b c : ℕ) (x y : ℤ) → b ≤ c → IsNear b x y → IsNear c x y
IsNear-more b c x y more near = (omega (arith, ints, near), omega (arith, ints, near), omega (arith, ints, near), omega (arith, ints, near))

-- the live cells of a picture are near the origin
bound : (p : Picture) → (b : ℕ) × ((x y : ℤ) → cell p x y ≢ 0 → IsNear b x y)
bound [] = (0, λ x y live. absurd (live refl))
bound (e ∷ es) =
    let rest = bound es in
    let b : ℕ = rest.0 + size e.0.x e.0.y in (
      b,
      λ x y live. elim (cases_Bool (int_eq y e.0.y && int_eq x e.0.x)) [
        | inl here ↦ let place = place-from_true x y e.0 here in IsNear-itself rest.0 x y e.0.x e.0.y place.1 place.0
        | inr other ↦ IsNear-more rest.0 b x y (omega arith) (rest.1 x y (λ z. live (cond-false _ e.1 (cell es x y) other ∙ z)))
      ],
    )

-- ---- one coordinate

-- k times a number above 0 is no less than k,
rises : (k : ℕ) (u : ℤ) → pos 1 ≤ℤ u → pos k ≤ℤ (pos k *ℤ u)
rises zero u some = rw (zero-*ℤ u) (omega (arith, ints))
rises (suc k) u some = let before = rises k u some in rw (suc_ℤ-*ℤ (pos k) u) (omega (arith, ints, before))

-- and k times one below 0 is no greater than -k
falls : (k : ℕ) (u : ℤ) → (u +ℤ pos 1) ≤ℤ pos 0 → (pos k *ℤ u) ≤ℤ neg_ℤ (pos k)
falls zero u some = rw (zero-*ℤ u) (omega (arith, ints))
falls (suc k) u some = let before = falls k u some in rw (suc_ℤ-*ℤ (pos k) u) (omega (arith, ints, before))

-- a number that is neither above 0 nor below is 0
zero_between : (d : ℤ) → (pos 1 ≤ℤ d → ⊥) → ((d +ℤ pos 1) ≤ℤ pos 0 → ⊥) → d ≡ pos 0
zero_between d above below =
    by_lt_z (pos 0) d (λ h. absurd (above (omega (arith, ints)))) (λ h. by_lt_z d (pos 0) (λ k. absurd (below (omega (arith, ints)))) (λ k. omega (arith, ints)))

-- what goes on by u for ever and stays between two numbers, goes on by 0
stands_still : (b : ℕ) (x u : ℤ) → ((k : ℕ) → (neg_ℤ (pos b) ≤ℤ (x +ℤ (pos k *ℤ u))) × ((x +ℤ (pos k *ℤ u)) ≤ℤ pos b)) → u ≡ pos 0
stands_still b x u all =
    let far : ℕ = b + b + 1 in
    let start = rw (zero-*ℤ u) at (all 0) in
    let end = all (b + b + 1) in
    zero_between u (λ some. let r = rises (b + b + 1) u some in omega (arith, ints, start, end, r)) (λ some. let r = falls (b + b + 1) u some in omega (arith, ints, start, end, r))

-- ---- pictures

-- a cell that goes on by (u, v) for ever, and is always one of the picture's, goes on by (0, 0)
pub no_drift : (p : Picture) (x y u v : ℤ) → ((k : ℕ) → cell p (x +ℤ (pos k *ℤ u)) (y +ℤ (pos k *ℤ v)) ≢ 0) → (u ≡ pos 0) × (v ≡ pos 0)
no_drift p x y u v live =
    let (b, near) = bound p in
    let at : (k : ℕ) → IsNear b (x +ℤ (pos k *ℤ u)) (y +ℤ (pos k *ℤ v)) = λ k. near (x +ℤ (pos k *ℤ u)) (y +ℤ (pos k *ℤ v)) (live k) in
    (stands_still b x u (λ k. ((at k).0, (at k).1)), stands_still b y v (λ k. ((at k).2, (at k).3)))

-- k times a difference
pub times-minus : (k : ℕ) (a u : ℤ) → pos k *ℤ (a -ℤ u) ≡ (pos k *ℤ a) -ℤ (pos k *ℤ u)
times-minus zero a u = rw (zero-*ℤ (a -ℤ u), zero-*ℤ a, zero-*ℤ u) (omega (arith, ints))
times-minus (suc k) a u =
    let before = times-minus k a u in
    rw (suc_ℤ-*ℤ (pos k) (a -ℤ u), suc_ℤ-*ℤ (pos k) a, suc_ℤ-*ℤ (pos k) u) (omega (arith, ints, before))

-- what goes on by u for long and is between two numbers then, goes on by 0
stays_out : (b : ℕ) (x u : ℤ) (k : ℕ) → b + (up x + down x) + 1 ≤ k → neg_ℤ (pos b) ≤ℤ (x +ℤ (pos k *ℤ u)) → (x +ℤ (pos k *ℤ u)) ≤ℤ pos b → u ≡ pos 0
stays_out b x u k far low high =
    zero_between u (λ some. let r = rises k u some in omega (arith, ints, far, low, high, r)) (λ some. let r = falls k u some in omega (arith, ints, far, low, high, r))

-- from some number of steps on, a place that goes on by a vector other than (0, 0) is none of the picture's cells
pub drifts_out : (p : Picture) (x y : ℤ) → (m : ℕ) × ((k : ℕ) → m ≤ k → (u v : ℤ) → cell p (x +ℤ (pos k *ℤ u)) (y +ℤ (pos k *ℤ v)) ≢ 0 → (u ≡ pos 0) × (v ≡ pos 0))
drifts_out p x y =
    let (b, near) = bound p in (
      b + (up x + down x) + (up y + down y) + 1,
      λ k late u v live.
          let at = near (x +ℤ (pos k *ℤ u)) (y +ℤ (pos k *ℤ v)) live in
          (stays_out b x u k (omega (arith, late)) at.0 at.1, stays_out b y v k (omega (arith, late)) at.2 at.3),
    )

-- What a picture that comes back is like at other times.
use Rattle.std.proofs.Common.{◌≡◌, ◌≢◌, ℕ, zero, suc, ◌+◌, ◌-◌, ◌*◌, ◌<◌, ◌≤◌, ◌⊎◌, List, Ordering, Less, Equal, Greater, inl, inr, refl, sym, ap, ap₂, ◌∙◌, subst, arith}
use Rattle.std.specs.Prelude.{ℤ, pos, ◌+ℤ◌, ◌-ℤ◌, ◌*ℤ◌, ◌≤ℤ◌, ◌<ℤ◌, replicate}
use Rattle.std.specs.Ordering.{int_cmp, MatchOrdering}
use Rattle.std.proofs.lemmas.Nat.{mul-le}
use Rattle.std.proofs.lemmas.Bool.{cases_lt}
use Rattle.std.proofs.lemmas.Cmp.{int_ranked}
use Rattle.std.proofs.lemmas.Int.{ints}
use Rattle.ca_plane.specs.declared.point.Bounds.{Bounds}
use Rattle.ca_plane.specs.Prelude.{Picture, cell, shifted, after, IsAfter, IsInBox, IsLeastBox}
use Rattle.ca_plane.proofs.Shifts.{cell-shifted}
use Rattle.ca_steps.specs.Prelude.{IsBackAnywhere, grown_box, IsWiderByAtMost}
use Rattle.ca_steps.proofs.Returns.{after_stands, after_back, back_times}
use Rattle.ca_steps.proofs.Spreading.{spread}

-- ---- how far it grows

-- a number is at most another one, or above it
at_most_or_above : (a b : ℤ) → (a ≤ℤ b) ⊎ (b <ℤ a)
at_most_or_above a b = by_order (int_cmp a b) (int_ranked a b _ refl)
  where
    by_order : (o : Ordering) → MatchOrdering o (a <ℤ b) (a ≡ b) (b <ℤ a) → (a ≤ℤ b) ⊎ (b <ℤ a)
    by_order Less h = inl (omega (arith, ints))
    by_order Equal h = inl (omega (arith, ints))
    by_order Greater h = inr h

-- the box moved by (u, v) and grown by m cells on each side
abbrev near_box : Bounds → (u v : ℤ) → (m : ℕ) → Bounds
near_box box u v m = grown_box (record { x0 = box.x0 +ℤ u; y0 = box.y0 +ℤ v; x1 = box.x1 +ℤ u; y1 = box.y1 +ℤ v }) m

-- after n generations no cell is live outside the box, moved by some vector and grown by m cells on each side
record LieNear (next : List ℕ → ℕ) (p : Picture) (box : Bounds) (m n : ℕ) : Type 0 where
  u : ℤ
  v : ℤ
  out : (x y : ℤ) → (IsInBox (near_box box u v m) x y → ⊥) → after next p n x y ≡ 0

-- it is so before p generations, with one cell less than p
near_early : (next : List ℕ → ℕ) (cells : Picture) (box : Bounds) → next (replicate 9 0) ≡ 0 → ((x y : ℤ) → cell cells x y ≢ 0 → IsInBox box x y)
    → (p n : ℕ) → n < p → LieNear next cells box (p - 1) n
near_early next cells box quiet all p n early = record {
  u = pos 0;
  v = pos 0;
  out = λ x y none. spread next cells box quiet all n x y (λ inside.
      none (omega (arith, ints, early, inside), omega (arith, ints, early, inside), omega (arith, ints, early, inside), omega (arith, ints, early, inside)));
}

-- and p generations later, where the picture is back then
near_later : (next : List ℕ → ℕ) (cells : Picture) (box : Bounds) (m p n : ℕ) (dx dy : ℤ) → IsAfter next cells p (shifted cells dx dy)
    → LieNear next cells box m n → LieNear next cells box m (p + n)
near_later next cells box m p n dx dy back before = record {
  u = before.u +ℤ dx;
  v = before.v +ℤ dy;
  out = λ x y none. after_back next cells p n dx dy back x y ∙ before.out (x -ℤ dx) (y -ℤ dy) (λ inside.
      none (omega (arith, ints, inside), omega (arith, ints, inside), omega (arith, ints, inside), omega (arith, ints, inside)));
}

-- so it is at every time
lie_near : (next : List ℕ → ℕ) (cells : Picture) (box : Bounds) → next (replicate 9 0) ≡ 0 → ((x y : ℤ) → cell cells x y ≢ 0 → IsInBox box x y)
    → (p : ℕ) (dx dy : ℤ) → 1 ≤ p → IsAfter next cells p (shifted cells dx dy) → (limit n : ℕ) → n ≤ limit → LieNear next cells box (p - 1) n
lie_near next cells box quiet all p dx dy some back zero n within = near_early next cells box quiet all p n (omega (arith, some, within))
lie_near next cells box quiet all p dx dy some back (suc limit) n within =
    elim (cases_lt n p) [
      | inl early ↦ near_early next cells box quiet all p n early
      | inr late ↦
          let sum : p + (n - p) ≡ n = omega (arith, late) in
          let low : n - p ≤ limit = omega (arith, some, within, late) in
          let before = lie_near next cells box quiet all p dx dy some back limit (n - p) low in
          subst (λ k. LieNear next cells box (p - 1) k) sum (near_later next cells box (p - 1) p (n - p) dx dy back before)
    ]

-- where what is false would follow from one number above another, it isn't above
not_before : (P : Type 0) (a b : ℤ) → (b <ℤ a → P) → (P → ⊥) → a ≤ℤ b
not_before P a b out none = elim (at_most_or_above a b) [ inl h ↦ h | inr h ↦ absurd (none (out h)) ]

-- the smallest box later is within the near one
near_sides : (next : List ℕ → ℕ) (cells later : Picture) (box wide : Bounds) (m n : ℕ) → IsAfter next cells n later → IsLeastBox later wide
    → LieNear next cells box m n → IsWiderByAtMost box wide (2 * m)
near_sides next cells later box wide m n stands least lies =
    let dead : (x y : ℤ) → (IsInBox (near_box box lies.u lies.v m) x y → ⊥) → cell later x y ≡ 0 = λ x y none. sym (stands x y) ∙ lies.out x y none in
    let left : ((box.x0 +ℤ lies.u) -ℤ pos m) ≤ℤ wide.x0 =
    not_before _ _ _ (λ h. dead wide.x0 least.left.0 (λ inside. omega (arith, ints, inside, h))) least.left.1 in
    let right : wide.x1 ≤ℤ ((box.x1 +ℤ lies.u) +ℤ pos m) =
    not_before _ _ _ (λ h. dead wide.x1 least.right.0 (λ inside. omega (arith, ints, inside, h))) least.right.1 in
    let top : ((box.y0 +ℤ lies.v) -ℤ pos m) ≤ℤ wide.y0 =
    not_before _ _ _ (λ h. dead least.top.0 wide.y0 (λ inside. omega (arith, ints, inside, h))) least.top.1 in
    let bottom : wide.y1 ≤ℤ ((box.y1 +ℤ lies.v) +ℤ pos m) =
    not_before _ _ _ (λ h. dead least.bottom.0 wide.y1 (λ inside. omega (arith, ints, inside, h))) least.bottom.1 in
    record { columns = omega (arith, ints, left, right); rows = omega (arith, ints, top, bottom) }

-- so a picture that is back after p generations has at no time a box much larger than its own
pub never_wide : (next : List ℕ → ℕ) → next (replicate 9 0) ≡ 0 → (cells later : Picture) (p n : ℕ) (box wide : Bounds) → IsBackAnywhere next cells p
    → IsAfter next cells n later → IsLeastBox cells box → IsLeastBox later wide → IsWiderByAtMost box wide (2 * (p - 1))
never_wide next quiet cells later p n box wide back stands small least =
    near_sides next cells later box wide (p - 1) n stands least
    (lie_near next cells box quiet small.all p back.1 back.2 back.0 back.3 n n (omega arith))

-- ---- what it is where its plane settles

-- after n times its period it is there again, moved, and by then its plane goes on as the settled one does
pub settles_alike : (next : List ℕ → ℕ) (cells settled : Picture) (p n q : ℕ) (dx dy : ℤ) → IsBackAnywhere next cells p → IsAfter next cells n settled
    → IsAfter next settled q (shifted settled dx dy) → IsAfter next cells q (shifted cells dx dy)
settles_alike next cells settled p n q dx dy back stands again x y =
    let u = pos n *ℤ back.1 in
    let v = pos n *ℤ back.2 in
    let there : IsAfter next cells (n * p) (shifted cells u v) = back_times next cells p n back.1 back.2 back.3 in
    let rest = n * p - n in
    let enough : n * 1 ≤ n * p = mul-le n 1 n p (omega arith) back.0 in
    let sum : n + rest ≡ n * p = omega (arith, enough) in
    let turn : n * p + q ≡ n + (q + rest) = omega (arith, sum) in
    let bx : x ≡ (x +ℤ u) -ℤ u = omega (arith, ints) in
    let by : y ≡ (y +ℤ v) -ℤ v = omega (arith, ints) in
    let ax : ((x +ℤ u) -ℤ dx) -ℤ u ≡ x -ℤ dx = omega (arith, ints) in
    let ay : ((y +ℤ v) -ℤ dy) -ℤ v ≡ y -ℤ dy = omega (arith, ints) in
    ap₂ (after next cells q) bx by ∙ sym (after_back next cells (n * p) q u v there (x +ℤ u) (y +ℤ v))
    ∙ ap (λ k. after next cells k (x +ℤ u) (y +ℤ v)) turn ∙ sym (after_stands next cells settled n (q + rest) stands (x +ℤ u) (y +ℤ v))
    ∙ after_back next settled q rest dx dy again (x +ℤ u) (y +ℤ v) ∙ after_stands next cells settled n rest stands ((x +ℤ u) -ℤ dx) ((y +ℤ v) -ℤ dy)
    ∙ ap (λ k. after next cells k ((x +ℤ u) -ℤ dx) ((y +ℤ v) -ℤ dy)) sum ∙ there ((x +ℤ u) -ℤ dx) ((y +ℤ v) -ℤ dy)
    ∙ cell-shifted cells u v ((x +ℤ u) -ℤ dx) ((y +ℤ v) -ℤ dy) ∙ ap₂ (cell cells) ax ay ∙ sym (cell-shifted cells dx dy x y)

-- Columns and rows: numbers that are divided by a power of two and rounded down.
use Rattle.std.proofs.Common.{◌≡◌, ℕ, suc, ◌+◌, ◌-◌, ◌*◌, ◌/◌, ◌%◌, ◌<◌, ◌≤◌, ◌^◌, ◌⊎◌, inl, inr, ℤ, pos, negsuc, ◌+ℤ◌, ◌≤ℤ◌, sym, ap, ◌∙◌, arith}
use Rattle.std.proofs.lemmas.Int.{ints}
use Rattle.std.proofs.lemmas.Nat.{pow_pos, shr-shr, div-mul-add, div-add-mod', mod_below, div_below, le-div}
use Rattle.std.proofs.Math.Nat.{div-mul-le_self, div-one, add-mul-div_right, add-mul}
use Rattle.ca_plane.proofs.Numbers.{below_or_not}
use Rattle.ca_draw.specs.Prelude.{strip_of}

-- at scale 0 each number is one
pub strip-zero : (n : ℤ) → strip_of 0 n ≡ n
strip-zero (pos a) = ap pos (div-one a)
strip-zero (negsuc a) = ap negsuc (div-one a)

next_quotient : (k a : ℕ) → a / 2 ^ suc k ≡ a / 2 ^ k / 2 ^ 1
next_quotient k a =
    let e : suc k ≡ k + 1 = omega arith in
    ap (λ j. a / 2 ^ j) e ∙ sym (shr-shr a k 1)

-- at the next scale they are halved
pub strip-suc : (k : ℕ) (n : ℤ) → strip_of (suc k) n ≡ strip_of 1 (strip_of k n)
strip-suc k (pos a) = ap pos (next_quotient k a)
strip-suc k (negsuc a) = ap negsuc (next_quotient k a)

-- an even or an odd number
parity : (a : ℕ) → (a ≡ a / 2 + a / 2) ⊎ (a ≡ a / 2 + a / 2 + 1)
parity a =
    let e = div-add-mod' a 2 in
    let h = mod_below a 2 (omega arith) in
    elim (below_or_not (a % 2) 1) [ inl i ↦ inl (omega arith) | inr i ↦ inr (omega arith) ]

half_of_even : (a : ℕ) → (a + a) / 2 ≡ a
half_of_even a = ap (λ n. n / 2) (omega arith) ∙ div-mul-add a 2 0 (omega arith)

half_of_odd : (a : ℕ) → suc (a + a) / 2 ≡ a
half_of_odd a = ap (λ n. n / 2) (omega arith) ∙ div-mul-add a 2 1 (omega arith)

-- what is halved is twice the half, or one more
pub half_cases : (u c : ℤ) → strip_of 1 u ≡ c → (u ≡ c +ℤ c) ⊎ (u ≡ (c +ℤ c) +ℤ pos 1)
half_cases (pos a) c e =
    let h : pos (a / 2) ≡ c = e in
    elim (parity a) [ inl i ↦ inl (omega (arith, ints)) | inr i ↦ inr (omega (arith, ints)) ]
half_cases (negsuc a) c e =
    let h : negsuc (a / 2) ≡ c = e in
    elim (parity a) [ inl i ↦ inr (omega (arith, ints)) | inr i ↦ inl (omega (arith, ints)) ]

pub half_even : (c : ℤ) → strip_of 1 (c +ℤ c) ≡ c
half_even (pos a) = ap pos (half_of_even a)
half_even (negsuc a) = ap negsuc (half_of_odd a)

pub half_odd : (c : ℤ) → strip_of 1 ((c +ℤ c) +ℤ pos 1) ≡ c
half_odd (pos a) =
    let e : (pos a +ℤ pos a) +ℤ pos 1 ≡ pos (suc (a + a)) = omega (arith, ints) in
    ap (strip_of 1) e ∙ ap pos (half_of_odd a)
half_odd (negsuc a) =
    let e : (negsuc a +ℤ negsuc a) +ℤ pos 1 ≡ negsuc (a + a) = omega (arith, ints) in
    ap (strip_of 1) e ∙ ap negsuc (half_of_even a)

-- quotients keep the order
quotients : (k a b : ℕ) → a ≤ b → a / 2 ^ k ≤ b / 2 ^ k
quotients k a b h = le-div (a / 2 ^ k) b (2 ^ k) (pow_pos k) (omega (arith, div-mul-le_self a (2 ^ k)))

-- a larger number lies in no earlier strip
pub strip_mono : (k : ℕ) (a b : ℤ) → a ≤ℤ b → strip_of k a ≤ℤ strip_of k b
strip_mono k (pos a) (pos b) h =
    let i : a ≤ b = omega (arith, ints) in
    let j : a / 2 ^ k ≤ b / 2 ^ k = quotients k _ _ i in
    omega (arith, ints)
strip_mono k (pos a) (negsuc b) h = absurd (omega (arith, ints))
strip_mono k (negsuc a) (pos b) h =
    let goal : negsuc (a / 2 ^ k) ≤ℤ pos (b / 2 ^ k) = omega (arith, ints) in
    goal
strip_mono k (negsuc a) (negsuc b) h =
    let i : b ≤ a = omega (arith, ints) in
    let j : b / 2 ^ k ≤ a / 2 ^ k = quotients k _ _ i in
    omega (arith, ints)

-- what is left of whole strips, by quotients
module _ (d : ℕ) (some : 0 < d) (a u : ℕ) where
  pub over : u * d ≤ a → a / d ≡ (a - u * d) / d + u
  over h =
      let e : a ≡ a - u * d + u * d = omega arith in
      ap (λ n. n / d) e ∙ add-mul-div_right (a - u * d) u some

  under : a < u * d → (u * d - suc a) / d + suc (a / d) ≡ u
  under h =
      let q = a / d in
      let r = a % d in
      let t = u - suc q in
      let low : q < u = div_below a d u some h in
      let e : q * d + r ≡ a = div-add-mod' a d in
      let i : r < d = mod_below a d some in
      let f : suc q + t ≡ u = omega arith in
      let g : u * d ≡ q * d + d + t * d = ap (λ n. n * d) (sym f) ∙ add-mul (suc q) t d ∙ ap (λ n. n + t * d) (omega arith) in
      let rest : u * d - suc a ≡ t * d + (d - suc r) = omega arith in
      let whole : (u * d - suc a) / d ≡ t = ap (λ n. n / d) rest ∙ div-mul-add t d (d - suc r) (omega arith) in
      omega arith

-- a move by whole strips
pub strip_shift : (k u : ℕ) (n : ℤ) → strip_of k (n +ℤ pos (u * 2 ^ k)) ≡ strip_of k n +ℤ pos u
strip_shift k u (pos a) = ap pos (add-mul-div_right a u (pow_pos k))
strip_shift k u (negsuc a) =
    elim (below_or_not a (u * 2 ^ k)) [
      | inl h ↦
          let e : negsuc a +ℤ pos (u * 2 ^ k) ≡ pos (u * 2 ^ k - suc a) = omega (arith, ints) in
          let f = under (2 ^ k) (pow_pos k) a u h in
          let g : pos ((u * 2 ^ k - suc a) / 2 ^ k) ≡ negsuc (a / 2 ^ k) +ℤ pos u = omega (arith, ints) in
          ap (strip_of k) e ∙ g
      | inr h ↦
          let e : negsuc a +ℤ pos (u * 2 ^ k) ≡ negsuc (a - u * 2 ^ k) = omega (arith, ints) in
          let f = over (2 ^ k) (pow_pos k) a u h in
          let g : negsuc ((a - u * 2 ^ k) / 2 ^ k) ≡ negsuc (a / 2 ^ k) +ℤ pos u = omega (arith, ints) in
          ap (strip_of k) e ∙ g
    ]

-- The decimal form of a number: digits that write it.
use Rattle.std.proofs.Common.{◌≡◌, ℕ, suc, ◌+◌, ◌/◌, ◌%◌, ◌<◌, ◌≤◌, ◌^◌, true, List, [], ◌∷◌, ◌++◌, ℤ, pos, negsuc, neg_ℤ, ◌≤ℤ◌, inl, inr, decimal, refl, ap, arith}
use Rattle.std.specs.Fmt.{signed_decimal}
use Rattle.std.proofs.lemmas.Bool.Decides.{nat_tests}
use Rattle.std.proofs.lemmas.Fmt.{decimal_by_steps}
use Rattle.std.proofs.lemmas.Int.{ints}
use Rattle.ca_plane.specs.Prelude.{is_digit, AreDigits, IsInteger, value}
use Rattle.ca_plane.proofs.Numbers.{value-append}
use Rattle.ca_plane.proofs.Fronts.{every_append}

-- digits that write this number
abbrev pub Writes : ℕ → List ℕ → Type 0
Writes n digits = AreDigits digits × (n ≡ value digits)

digit_is : (n : ℕ) → n < 10 → is_digit (48 + n) ≡ true
digit_is n h = grind (arith, nat_tests)

one_digit : (n : ℕ) → n < 10 → Writes n ((48 + n) ∷ [])
one_digit n h = (rw (digit_is n h) refl, omega arith)

more_digits : (front : List ℕ) (last : ℕ) → AreDigits front → is_digit last ≡ true → AreDigits (front ++ last ∷ [])
more_digits [] last h d = absurd cc
more_digits (d ∷ ds) last h l = every_append is_digit (d ∷ ds) (last ∷ []) h (rw l refl)

more : (n : ℕ) (ds : List ℕ) → 10 ≤ n → Writes (n / 10) ds → Writes n (ds ++ (48 + n % 10) ∷ [])
more n ds h w = (more_digits ds (48 + n % 10) w.0 (digit_is (n % 10) (omega arith)), omega (arith, w.1, value-append ds ((48 + n % 10) ∷ [])))

pub decimal_writes : (n : ℕ) → n < 2 ^ 64 → Writes n (decimal n)
decimal_writes n h = decimal_by_steps Writes one_digit more n h

-- a number at most so far from 0
abbrev pub IsNear : ℕ → ℤ → Type 0
IsNear far n = (neg_ℤ (pos far) ≤ℤ n) × (n ≤ℤ pos far)

-- the same with a sign
pub signed_writes : (far : ℕ) (n : ℤ) → far < 2 ^ 64 → IsNear far n → IsInteger (signed_decimal n) n
signed_writes far (pos n) small near =
    let w = decimal_writes n (omega (arith, ints, near.1)) in
    inl (w.0, ap pos w.1)
signed_writes far (negsuc n) small near =
    let w = decimal_writes (suc n) (omega (arith, ints, near.0)) in
    inr (decimal (suc n), refl, w.0, ap (λ m. neg_ℤ (pos m)) w.1)

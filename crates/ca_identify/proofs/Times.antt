-- Vectors and numbers of generations, as they are read.
use Rattle.std.proofs.Common.{◌≡◌, ℕ, ◌<◌, ◌^◌, sym, ap, ap₂, ◌∙◌, arith, w64, to_z, of_z}
use Rattle.std.specs.Int.{w128}
use Rattle.std.specs.Prelude.{ℤ, pos, ◌-ℤ◌, FitsSigned}
use Rattle.std.proofs.lemmas.Int.{ints, to_z-of_z}
use Rattle.ca_text.specs.Prelude.{IsShift}
use Rattle.ca_pattern.specs.Prelude.{IsWide}
use Rattle.ca_text.proofs.Shifts.{shift_reads}
use Rattle.ca_pattern.proofs.Times.{wide_reads}

-- one that reads as 0 is none
pub no_shift_reads : (d : ℤ) → IsShift d → of_z w64 d ≡ 0 → d ≡ pos 0
no_shift_reads d shift none = sym (shift_reads d shift) ∙ ap (to_z w64) none

-- what is as far from one coordinate as from another is so as an `i128`
pub same_far : (a b c d far : ℤ) → IsWide a → IsWide b → IsWide c → IsWide d → far ≡ a -ℤ b → far ≡ c -ℤ d
    → of_z w128 (to_z w128 (of_z w128 a) -ℤ to_z w128 (of_z w128 b)) ≡ of_z w128 (to_z w128 (of_z w128 c) -ℤ to_z w128 (of_z w128 d))
same_far a b c d far wide_a wide_b wide_c wide_d one two =
    ap (of_z w128) (ap₂ (λ u v. u -ℤ v) (wide_reads a wide_a) (wide_reads b wide_b) ∙ sym one ∙ two ∙ sym (ap₂ (λ u v. u -ℤ v) (wide_reads c wide_c) (wide_reads d wide_d)))

-- ---- how far apart the sides of boxes are

-- a number of few digits reads so
pub number_reads : (n : ℤ) (m : ℕ) → n ≡ pos m → m < 2 ^ 64 → to_z w128 (of_z w128 n) ≡ n
number_reads n m is few = let fits : FitsSigned w128 n = omega (arith, ints, is, few) in to_z-of_z w128 n fits

-- so does the difference of two coordinates
apart_reads : (a b : ℤ) → IsWide a → IsWide b → to_z w128 (of_z w128 (to_z w128 (of_z w128 a) -ℤ to_z w128 (of_z w128 b))) ≡ a -ℤ b
apart_reads a b wide_a wide_b =
    let both = ap₂ (λ u v. u -ℤ v) (wide_reads a wide_a) (wide_reads b wide_b) in
    let fits : FitsSigned w128 (a -ℤ b) = omega (arith, ints, wide_a, wide_b) in
    ap (λ d. to_z w128 (of_z w128 d)) both ∙ to_z-of_z w128 (a -ℤ b) fits

-- and how much more one difference is than another
pub more_reads : (b1 b0 a1 a0 : ℤ) → IsWide b1 → IsWide b0 → IsWide a1 → IsWide a0
    → to_z w128 (of_z w128 (to_z w128 (of_z w128 (to_z w128 (of_z w128 b1) -ℤ to_z w128 (of_z w128 b0))) -ℤ to_z w128 (of_z w128 (to_z w128 (of_z w128 a1) -ℤ to_z w128 (of_z w128 a0)))))
    ≡ (b1 -ℤ b0) -ℤ (a1 -ℤ a0)
more_reads b1 b0 a1 a0 wide_b1 wide_b0 wide_a1 wide_a0 =
    let both = ap₂ (λ u v. u -ℤ v) (apart_reads b1 b0 wide_b1 wide_b0) (apart_reads a1 a0 wide_a1 wide_a0) in
    let fits : FitsSigned w128 ((b1 -ℤ b0) -ℤ (a1 -ℤ a0)) = omega (arith, ints, wide_b1, wide_b0, wide_a1, wide_a0) in
    ap (λ d. to_z w128 (of_z w128 d)) both ∙ to_z-of_z w128 ((b1 -ℤ b0) -ℤ (a1 -ℤ a0)) fits

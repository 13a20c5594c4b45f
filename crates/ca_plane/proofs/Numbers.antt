-- The number that digits write.
use Rattle.std.proofs.Common.{◌≡◌, ℕ, zero, suc, ◌+◌, ◌-◌, ◌*◌, ◌^◌, ◌<◌, ◌≤◌, ◌⊎◌, inl, inr, min, List, [], ◌∷◌, ◌++◌, length, take, get_or, refl, ap, ◌∙◌, arith, w64, to_z, of_z}
use Rattle.std.specs.Prelude.{ℤ, pos, neg_ℤ, negsuc, ◌+ℤ◌, ◌-ℤ◌, ◌≤ℤ◌, ◌<ℤ◌, FitsSigned}
use Rattle.std.proofs.lemmas.Int.{ints, to_z-of_z}
use Rattle.std.proofs.lemmas.Bool.Decides.{leb_tells}
use Rattle.std.proofs.lemmas.List.{take_more}
use Rattle.ca_plane.specs.Prelude.{value_from, value, nearest_i64}

-- digits after digits go on from the number of those
pub value_from-append : (n : ℕ) (ds es : List ℕ) → value_from n (ds ++ es) ≡ value_from (value_from n ds) es
value_from-append n [] es = refl
value_from-append n (d ∷ ds) es = value_from-append (10 * n + (d - 48)) ds es

-- one more digit
pub value_more : (ds : List ℕ) (i : ℕ) → i < length ds → value (take (i + 1) ds) ≡ 10 * value (take i ds) + (get_or ds i 0 - 48)
value_more ds i h = ap value (take_more ds i 0 h) ∙ value_from-append 0 (take i ds) (get_or ds i 0 ∷ [])

-- the number that digits after digits write
pub value-append : (ds es : List ℕ) → value (ds ++ es) ≡ value_from (value ds) es
value-append ds es = value_from-append 0 ds es

-- an integer from -2^63 to 2^63 - 1 reads as itself
reads : (n : ℤ) → neg_ℤ (pos (2 ^ 63)) ≤ℤ n → n <ℤ pos (2 ^ 63) → to_z w64 (of_z w64 n) ≡ n
reads n low high =
    let fits : FitsSigned w64 n = omega (arith, ints) in
    to_z-of_z w64 n fits

-- a number that is kept to 64 bits is as near as the number itself
pub nearest_plus : (v n : ℕ) (i : ℤ) → n ≡ min v (2 ^ 64 - 1) → i ≡ nearest_i64 (pos 0 +ℤ pos n) → to_z w64 (of_z w64 i) ≡ nearest_i64 (pos v)
nearest_plus v n i e f =
    let same : i ≡ pos (min v (2 ^ 63 - 1)) = f ∙ ap pos (omega arith) in
    reads i (omega (arith, ints)) (omega (arith, ints)) ∙ same

-- and so is its negative
pub nearest_minus : (v n : ℕ) (i : ℤ) → n ≡ min v (2 ^ 64 - 1) → i ≡ nearest_i64 (pos 0 -ℤ pos n) → to_z w64 (of_z w64 i) ≡ nearest_i64 (neg_ℤ (pos v))
nearest_minus zero zero i e f = reads i (omega (arith, ints)) (omega (arith, ints)) ∙ f
nearest_minus zero (suc n) i e f = absurd (omega arith)
nearest_minus (suc v) zero i e f = absurd (omega arith)
nearest_minus (suc v) (suc n) i e f =
    let less : pos 0 -ℤ pos (suc n) ≡ negsuc n = omega (arith, ints) in
    let same : i ≡ negsuc (min v (2 ^ 63 - 1)) = f ∙ ap nearest_i64 less ∙ ap negsuc (omega arith) in
    reads i (omega (arith, ints)) (omega (arith, ints)) ∙ same

-- of two numbers
pub below_or_not : (a b : ℕ) → (a < b) ⊎ (b ≤ a)
below_or_not a b = elim (leb_tells b a) [ inl e ↦ inr e.1 | inr e ↦ inl e.1 ]

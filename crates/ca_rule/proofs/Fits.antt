-- Counts of digits that a neighbourhood allows fit it.
use Rattle.std.proofs.Common.{◌≡◌, ◌==◌, ◌&&◌, ℕ, ◌+◌, ◌<◌, List, [], ◌∷◌, true, false, nat_le, refl, arith}
use Rattle.std.proofs.lemmas.Bool.{and_parts}
use Rattle.std.proofs.lemmas.Bool.Decides.{nat_tests}
use Rattle.ca_rule.specs.Prelude.{most_of, has_digit, counts_of, are_digits_up_to, FitsHood}
use Rattle.ca_rule.specs.declared.{counts.Counts.Counts, hood.Hood.Hood}
use Rattle.ca_rule.specs.declared.hood.Hood.TheVariants.{Moore, VonNeumann, Hex}

-- digits up to the greatest hold no greater one
pub no_digit : (most n : ℕ) (ds : List ℕ) → most < n → are_digits_up_to most ds ≡ true → has_digit ds n ≡ false
no_digit most n [] low h = refl
no_digit most n (d ∷ ds) low h =
    let parts = and_parts (nat_le 48 d && nat_le d (48 + most)) (are_digits_up_to most ds) h in
    let more = no_digit most n ds low parts.1 in
    let other : (d == 48 + n) ≡ false = grind (arith, nat_tests) in
    rw other more

fits_of : (hood : Hood) (ds : List ℕ) → are_digits_up_to (most_of hood) ds ≡ true → FitsHood (counts_of ds) hood
fits_of Moore ds h = refl
fits_of VonNeumann ds h =
    rw (no_digit 4 5 ds (omega arith) h, no_digit 4 6 ds (omega arith) h, no_digit 4 7 ds (omega arith) h, no_digit 4 8 ds (omega arith) h) refl
fits_of Hex ds h = rw (no_digit 6 7 ds (omega arith) h, no_digit 6 8 ds (omega arith) h) refl

-- the counts of digits that the neighbourhood allows fit it
pub fits : (counts : Counts) (ds : List ℕ) (hood : Hood) → counts ≡ counts_of ds → are_digits_up_to (most_of hood) ds ≡ true → FitsHood counts hood
fits counts ds hood e h = rw e (fits_of hood ds h)

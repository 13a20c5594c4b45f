use Rattle.std.proofs.Common.{◌≡◌, ℕ, ◌*◌, ◌/◌, ◌%◌, ◌^◌, [], ◌∷◌, ap, sym, ◌∙◌}
use Rattle.std.proofs.Math.Nat.{div-one, mul-one, pow-zero, pow-succ'}
use Rattle.ca_quad.specs.Prelude.{digit}
use Rattle.ca_quad.proofs.store.four_digits.Goals as goal

-- the places' values, multiplied out
digits_of : (n base : ℕ) → (n % base) ∷ (n / base % base) ∷ (n / (base * base) % base) ∷ (n / (base * (base * base)) % base) ∷ [] ≡ digit base n 0 ∷ digit base n 1 ∷ digit base n 2 ∷ digit base n 3 ∷ []
digits_of n base =
    let zero : n ≡ n / base ^ 0 = sym (ap (λ d. n / d) (pow-zero base) ∙ div-one n) in
    let one : base ≡ base ^ 1 = sym (pow-succ' base 0 ∙ ap (λ d. base * d) (pow-zero base) ∙ mul-one base) in
    let two : base * base ≡ base ^ 2 = ap (λ d. base * d) one ∙ sym (pow-succ' base 1) in
    let three : base * (base * base) ≡ base ^ 3 = ap (λ d. base * d) two ∙ sym (pow-succ' base 2) in
    λ i. (zero i % base) ∷ (n / one i % base) ∷ (n / two i % base) ∷ (n / three i % base) ∷ []

pub returns : goal.returns
returns c = digits_of c.args.n c.args.base

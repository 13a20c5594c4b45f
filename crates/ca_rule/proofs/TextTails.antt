-- What follows a text.
use Rattle.std.proofs.Common.{◌≡◌, ◌≢◌, ◌==◌, ℕ, List, [], ◌∷◌, ◌++◌, Option, Some, None, MatchOption, eq-eqb, unwrap_or, refl, ap, ◌∙◌, arith, inl, inr, Bor}
use Rattle.std.proofs.lemmas.Bool.{cases_Bool}
use Rattle.std.proofs.lemmas.Bool.Decides.{nat_tests}
use Rattle.ca_rule.specs.Prelude.{tail_after}

pub tail_after-is : (text more : List ℕ) → tail_after text (text ++ more) ≡ Some more
tail_after-is [] more = refl
tail_after-is (t ∷ ts) more = rw (eq-eqb t t refl) (tail_after-is ts more)

-- and the text comes before it
pub tail_after-whole : (text bytes more : List ℕ) → tail_after text bytes ≡ Some more → bytes ≡ text ++ more
tail_after-whole [] bytes more e = ap (λ o. unwrap_or o []) e
tail_after-whole (t ∷ ts) [] more e = cc
tail_after-whole (t ∷ ts) (b ∷ bs) more e =
    elim (cases_Bool (t == b)) [
      | inl v ↦ let same : b ≡ t = grind (arith, nat_tests) in let k = rw v at e in ap (λ x. x ∷ bs) same ∙ ap (λ l. t ∷ l) (tail_after-whole ts bs more k)
      | inr v ↦ let k = rw v at e in cc
    ]

-- bytes that don't begin with the text have nothing after it
tail_after-none : (text bytes : List ℕ) → ((r : List ℕ) → bytes ≢ text ++ r) → tail_after text bytes ≡ None
tail_after-none [] bytes none = absurd (none bytes refl)
tail_after-none (t ∷ ts) [] none = refl
tail_after-none (t ∷ ts) (b ∷ bs) none =
    elim (cases_Bool (t == b)) [
      | inl e ↦ let same : b ≡ t = grind (arith, nat_tests) in rw e (tail_after-none ts bs (λ r f. none r (ap (λ x. x ∷ bs) same ∙ ap (λ l. t ∷ l) f)))
      | inr e ↦ rw e refl
    ]

-- what is stripped of the text is what follows it
pub behind_stripped : (o : Option (Bor (List ℕ))) (text bytes : List ℕ) → MatchOption o ((r : List ℕ) → bytes ≢ text ++ r) (λ r. bytes ≡ text ++ r.now)
    → MatchOption o (tail_after text bytes ≡ None) (λ r. tail_after text bytes ≡ Some r.now)
behind_stripped None text bytes h = tail_after-none text bytes h
behind_stripped (Some r) text bytes h = ap (tail_after text) h ∙ tail_after-is text r.now

use Rattle.std.proofs.Common.{◌≡◌, ℕ, List, [], ◌∷◌, codes, refl, ap, subst, arith}
use Rattle.std.specs.Prelude.{ℤ}
use Rattle.ca_plane.specs.Prelude.{IsInteger, words_of, value}
use Rattle.ca_text.specs.declared.{both.Both.Both, kind.Kind.Kind}
use Rattle.ca_text.specs.declared.kind.Kind.TheVariants.{Still, Spaceship}
use Rattle.ca_text.specs.Prelude.{WordsClaim}
use Rattle.ca_text.proofs.HeldNumbers.{held_move}
use Rattle.ca_text.proofs.kind.spaceship.Goals as goal

-- words without integers where the shift stands make no claim
no_claim : (words : List (List ℕ)) (name p x y : List ℕ) → words ≡ name ∷ p ∷ x ∷ y ∷ [] → ((dx dy : ℤ) → IsInteger x dx → IsInteger y dy → ⊥)
    → (names : Both (List ℕ)) (kind : Kind) → WordsClaim (codes "spaceship" ∷ words) names kind → ⊥
no_claim words name p x y e none names (Spaceship v dx dy) h =
    let same = h.1 in
    let later = h.2.3 in
    let across : h.2.1 ≡ x = cc in
    let down : h.2.2 ≡ y = cc in
    none dx dy (subst (λ l. IsInteger l dx) across h.2.6) (subst (λ l. IsInteger l dy) down h.2.7)
no_claim words name p x y e none names Still h = let same = h.1 in cc
no_claim words name p x y e none names kind h = let same = h.1 in cc

pub returns-in_err-dx : goal.returns-in_err-dx
returns-in_err-dx c =
    let name = c.in_ok-name in
    rw c.from_residual-in_err-dx.ensures
    (λ claim. no_claim (words_of c.args.words.now) name.name.now name.period.now name.dx.now name.dy.now name.ensures c.in_err-dx.ensures claim.patterns claim.kind)

pub returns : goal.returns
returns c =
    let name = c.in_ok-name in
    let p = name.period.now in
    let number = c.in_ok-period.ensures in
    let shift = c.in_ok-dx.ensures in
    rw c.about_one.ensures (
      Spaceship (value p) shift.0 shift.1,
      (p ∷ name.dx.now ∷ name.dy.now ∷ [], ap (λ ws. codes "spaceship" ∷ ws) name.ensures, (p, name.dx.now, name.dy.now, refl, number.0, refl, shift.2, shift.3, refl)),
      held_move Spaceship (λ n x y good. (omega arith, good.2, good.3)) (λ n m dx dy x y. refl) (value p) c.in_ok-period.period shift.0 shift.1 c.in_ok-dx.dx c.in_ok-dx.dy number.1 shift.4 shift.5,
    )

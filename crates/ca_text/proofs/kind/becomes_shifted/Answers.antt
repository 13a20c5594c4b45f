use Rattle.std.proofs.Common.{◌≡◌, ℕ, List, [], ◌∷◌, codes, refl, ap, subst, arith}
use Rattle.std.specs.Prelude.{ℤ}
use Rattle.ca_plane.specs.Prelude.{IsInteger, words_of, value}
use Rattle.ca_text.specs.declared.{both.Both.Both, kind.Kind.Kind}
use Rattle.ca_text.specs.declared.kind.Kind.TheVariants.{Still, Becomes, BecomesShifted}
use Rattle.ca_text.specs.Prelude.{WordsClaim}
use Rattle.ca_text.proofs.HeldNumbers.{held_move}
use Rattle.ca_text.proofs.kind.becomes_shifted.Goals as goal

-- words without integers where the shift stands make no claim
no_claim : (words : List (List ℕ)) (name p second x y : List ℕ) → words ≡ name ∷ p ∷ second ∷ codes "shift" ∷ x ∷ y ∷ [] → ((dx dy : ℤ) → IsInteger x dx → IsInteger y dy → ⊥)
    → (names : Both (List ℕ)) (kind : Kind) → WordsClaim (codes "becomes" ∷ words) names kind → ⊥
no_claim words name p second x y e none names (Becomes v) h =
    let same = h.1 in
    let later = h.2.1 in
    cc
no_claim words name p second x y e none names (BecomesShifted v dx dy) h =
    let same = h.1 in
    let later = h.2.3 in
    let across : h.2.1 ≡ x = cc in
    let down : h.2.2 ≡ y = cc in
    none dx dy (subst (λ l. IsInteger l dx) across h.2.6) (subst (λ l. IsInteger l dy) down h.2.7)
no_claim words name p second x y e none names Still h = let same = h.1 in cc
no_claim words name p second x y e none names kind h = let same = h.1 in cc

pub returns-in_err-dx : goal.returns-in_err-dx
returns-in_err-dx c =
    let name = c.in_ok-first in
    rw c.from_residual-in_err-dx.ensures
    (λ claim. no_claim (words_of c.args.words.now) name.first.now name.generations.now name.second.now name.dx.now name.dy.now name.ensures c.in_err-dx.ensures claim.patterns claim.kind)

pub returns : goal.returns
returns c =
    let name = c.in_ok-first in
    let n = name.generations.now in
    let number = c.in_ok-generations.ensures in
    let shift = c.in_ok-dx.ensures in (
      BecomesShifted (value n) shift.0 shift.1,
      (n ∷ name.second.now ∷ codes "shift" ∷ name.dx.now ∷ name.dy.now ∷ [], ap (λ ws. codes "becomes" ∷ ws) name.ensures, (n, name.dx.now, name.dy.now, refl, number.0, refl, shift.2, shift.3)),
      held_move BecomesShifted (λ n x y good. (omega arith, good.1, good.2)) (λ n m dx dy x y. refl) (value n) c.in_ok-generations.generations shift.0 shift.1 c.in_ok-dx.dx c.in_ok-dx.dy number.1 shift.4 shift.5,
    )

use Rattle.std.proofs.Common.{◌≡◌, [], ◌∷◌, codes, inl, refl, sym, subst, arith}
use Rattle.std.proofs.lemmas.Int.{ints}
use Rattle.ca_plane.specs.Prelude.{words_of}
use Rattle.ca_import.specs.Prelude.{corner_numbers, Life105WordsSay}
use Rattle.ca_import.specs.inner.Lines.{IsAloneFault}
use Rattle.ca_import.proofs.Faults.{passed_on}
use Rattle.ca_import.proofs.Life105Lines.{corner_fault}
use Rattle.ca_import.proofs.life105.corner_line.Goals as goal

pub returns-in_err-point-in-None-clause-fault : goal.returns-in_err-point-in-None-clause-fault
returns-in_err-point-in-None-clause-fault c =
    let line = c.args.line.now in
    let x = c.in-Some.x.now in
    let y = c.in-Some-next_word.y.now in
    let first = c.in-Some.ensures.words in
    let second = c.in-Some-next_word.ensures.words in
    let none = c.in-None.ensures.words in
    let x_is = c.in-Some.x-is in
    let rest_is = c.in-Some.rest-is in
    let y_is = c.in-Some-next_word.y-is in
    let later_is = c.in-Some-next_word.rest-is in
    let words : words_of line ≡ x ∷ y ∷ [] = cc in
    let fault = c.in_err-point-in-None.field-0.0 in
    passed_on _ fault (IsAloneFault (Life105WordsSay (codes "#P" ∷ words_of line))) c.from_residual.ensures.1
    (corner_fault (words_of line) x y words fault c.in_err-point-in-None.ensures.fault)

-- no words stand for `0 0`
pub returns-in_default-clause-said : goal.returns-in_default-clause-said
returns-in_default-clause-said c =
    let numbers : corner_numbers (words_of c.args.line.now) ≡ codes "0" ∷ codes "0" ∷ [] = subst (λ l. corner_numbers l ≡ codes "0" ∷ codes "0" ∷ []) (sym c.in_default.ensures.words) refl in
    record {
      says = (words_of c.args.line.now, codes "0", codes "0", refl, numbers, inl (refl, refl), inl (refl, refl));
      bounded = (omega (arith, ints), omega (arith, ints), omega (arith, ints), omega (arith, ints));
    }

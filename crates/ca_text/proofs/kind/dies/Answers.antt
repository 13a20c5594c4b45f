use Rattle.std.proofs.Common.{[], ◌∷◌, codes, refl, ap, arith}
use Rattle.ca_plane.specs.Prelude.{words_of, value}
use Rattle.ca_text.specs.declared.kind.Kind.TheVariants.{Dies}
use Rattle.ca_text.proofs.HeldNumbers.{held_kind}
use Rattle.ca_text.proofs.KindWords.{not_numbered}
use Rattle.ca_text.proofs.kind.dies.Goals as goal

pub returns-in_err-name : goal.returns-in_err-name
returns-in_err-name c = rw c.from_residual.ensures (not_numbered (codes "dies") (words_of c.args.words.now) refl c.in_err-name.ensures)

pub returns : goal.returns
returns c =
    let number = c.in_ok-name.ensures in
    rw c.about_one.ensures (
      Dies (value number.0),
      (number.0 ∷ [], ap (λ ws. codes "dies" ∷ ws) number.1, (number.0, refl, number.2, refl, refl)),
      held_kind Dies (λ n good. omega arith) (λ n m. refl) (value number.0) c.in_ok-name.generations number.3,
    )

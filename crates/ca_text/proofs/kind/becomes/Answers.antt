use Rattle.std.proofs.Common.{[], ◌∷◌, refl, ap, codes, arith}
use Rattle.ca_plane.specs.Prelude.{value}
use Rattle.ca_text.specs.declared.kind.Kind.TheVariants.{Becomes}
use Rattle.ca_text.proofs.HeldNumbers.{held_kind}
use Rattle.ca_text.proofs.kind.becomes.Goals as goal

pub returns : goal.returns
returns c =
    let n = c.in-Some.generations.now in
    let number = c.in_ok-generations.ensures in (
      Becomes (value n),
      (n ∷ c.in-Some.second.now ∷ [], ap (λ ws. codes "becomes" ∷ ws) c.in-Some.ensures, (n, refl, number.0, refl)),
      held_kind Becomes (λ n good. omega arith) (λ n m. refl) (value n) c.in_ok-generations.generations number.1,
    )

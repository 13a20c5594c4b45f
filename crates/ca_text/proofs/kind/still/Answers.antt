use Rattle.std.proofs.Common.{[], ◌∷◌, refl, ap, codes}
use Rattle.ca_text.specs.declared.kind.Kind.TheVariants.{Still}
use Rattle.ca_text.proofs.HeldNumbers.{held_same}
use Rattle.ca_text.proofs.kind.still.Goals as goal

pub returns : goal.returns
returns c = rw c.about_one.ensures (Still, ([], ap (λ ws. codes "still" ∷ ws) c.in_ok-name.ensures, (refl, refl)), held_same Still)

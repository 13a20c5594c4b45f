use Rattle.ca_plane.specs.Prelude.{cell}
use Rattle.ca_parts.proofs.ApartPlanes.{after_both}
use Rattle.ca_parts.proofs.Sums.{after_together, apart_before}
use Rattle.ca_parts.proofs.laws.apart_parts_go_on_alone.Goals as goal

pub returns-clause-two : goal.returns-clause-two
returns-clause-two c next quiet p q never n = after_both next quiet (cell p) (cell q) n (λ m _. never m)

pub returns-clause-all : goal.returns-clause-all
returns-clause-all c next quiet parts never n = after_together next quiet parts n (apart_before next parts never n)

pub returns-clause-before : goal.returns-clause-before
returns-clause-before c = after_together

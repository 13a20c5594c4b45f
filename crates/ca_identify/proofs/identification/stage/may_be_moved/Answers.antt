use Rattle.std.proofs.Common.{arith}
use Rattle.std.proofs.lemmas.Bool.Decides.{nat_tests}
use Rattle.ca_quad.specs.Prelude.{cell}
use Rattle.ca_identify.proofs.MovedPopulations.{others_moved_nowhere}
use Rattle.ca_identify.proofs.identification.stage.may_be_moved.Goals as goal

pub returns : goal.returns
returns c = λ no.
    let nodes = c.args.store.now in
    others_moved_nowhere (cell nodes c.args.one.now) (cell nodes c.args.other.now) c.in_ok-cells.cells c.in_ok-population.field-0 c.in_ok-cells.ensures c.in_ok-population.ensures
    (λ same. grind (arith, nat_tests, no, same))

use Rattle.std.proofs.Common.{subst}
use Rattle.ca_plane.specs.Prelude.{counting_next}
use Rattle.ca_bricks.specs.Prelude.{diagram_next}
use Rattle.ca_bricks.specs.inner.Neighbourhoods.{AreNextStates}
use Rattle.ca_bricks.proofs.Neighbourhoods.{goes_by_counting, goes_by_diagram}
use Rattle.ca_bricks.proofs.cell_rule.CellRule.of.Goals as goal

pub returns-in-Some-counting_of : goal.returns-in-Some-counting_of
returns-in-Some-counting_of g c =
    let counting = c.in-Some-counting_of.counting in
    goes_by_counting _ counting _ c.in_ok-states.ensures (subst (AreNextStates (counting_next counting)) c.deref.ensures.value c.in-Some-counting_of.ensures)

pub returns : goal.returns
returns g c =
    let diagram = c.in-Some-2.diagram in
    let gives = rw c.in-Some-2.is at (c.in_ok-diagram.ensures) in
    goes_by_diagram _ diagram _ c.in_ok-states.ensures (subst (AreNextStates (diagram_next diagram.nodes.items)) c.deref-2.ensures.value gives)

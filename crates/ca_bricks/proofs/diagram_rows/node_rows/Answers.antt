use Rattle.std.proofs.Common.{◌∙◌, sym, ap}
use Rattle.ca_bricks.specs.Prelude.{node_state}
use Rattle.ca_bricks.specs.inner.Planes.{cells_at}
use Rattle.ca_bricks.proofs.Planes.{read, chosen}
use Rattle.ca_bricks.proofs.diagram_rows.node_rows.Goals as goal

pub returns-in-Choice : goal.returns-in-Choice
returns-in-Choice c = λ x y h k.
    let nine = c.args.nine.now in
    let earlier = c.args.earlier.now in
    let choice = c.in-Choice.choice in
    c.select_rows.ensures x y h k
    ∙ chosen (cells_at nine x y) (cells_at earlier x y) choice.place choice.dead choice.live _ _ _ (c.rows_at.ensures x y ∙ sym (read nine choice.place x y))
    (c.rows_at-in-Choice-2.ensures x y ∙ sym (read earlier choice.dead x y)) (c.rows_at-in-Choice.ensures x y ∙ sym (read earlier choice.live x y))
    ∙ ap (node_state (cells_at nine x y) (cells_at earlier x y)) (sym c.in-Choice.is)

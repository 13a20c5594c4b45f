use Rattle.std.proofs.Common.{◌∙◌, sym, ap}
use Rattle.ca_bricks.specs.Prelude.{node_state}
use Rattle.ca_bricks.specs.inner.Planes.{cells_at, tile_planes}
use Rattle.ca_bricks.proofs.Planes.{read, chosen}
use Rattle.ca_bricks.proofs.diagram_tile.node_bits.Goals as goal

pub returns-in-Choice : goal.returns-in-Choice
returns-in-Choice c = λ x y h k.
    let nine = tile_planes c.args.nine.now in
    let earlier = tile_planes c.args.earlier.now in
    let choice = c.in-Choice.choice in
    c.select.ensures x y
    ∙ chosen (cells_at nine x y) (cells_at earlier x y) choice.place choice.dead choice.live _ _ _ (c.bits_at.ensures x y h k ∙ sym (read nine choice.place x y))
    (c.bits_at-in-Choice-2.ensures x y h k ∙ sym (read earlier choice.dead x y)) (c.bits_at-in-Choice.ensures x y h k ∙ sym (read earlier choice.live x y))
    ∙ ap (node_state (cells_at nine x y) (cells_at earlier x y)) (sym c.in-Choice.is)

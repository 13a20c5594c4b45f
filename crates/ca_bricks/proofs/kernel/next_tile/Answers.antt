use Rattle.std.proofs.Common.{◌∙◌, ap}
use Rattle.ca_plane.specs.Prelude.{row_cells}
use Rattle.ca_bricks.specs.Prelude.{number, sum_round}
use Rattle.ca_bricks.proofs.TileCells.{next_within}
use Rattle.ca_bricks.proofs.kernel.next_tile.Goals as goal

pub returns : goal.returns
returns g c = next_within c.args.counting c.args.alive.rows c.next_bits.result.rows (number c.count.result)
    (λ x y h k. c.count.ensures x y h k ∙ ap (λ counted. sum_round counted (row_cells c.args.alive.rows) x y) c.requires) c.next_bits.ensures

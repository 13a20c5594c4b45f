use Rattle.std.proofs.Common.{◌∙◌, ap, subst, min}
use Rattle.ca_plane.specs.Prelude.{row_cells}
use Rattle.ca_bricks.specs.Prelude.{IsNextTile}
use Rattle.ca_bricks.proofs.TileCells.{cut_within, next_edge}
use Rattle.ca_bricks.proofs.kernel.kernel16.Goals as goal

pub returns-clause-within : goal.returns-clause-within
returns-clause-within c = subst (λ rows. IsNextTile c.args.birth c.args.survive rows c.and.result.rows) c.of.ensures
    (λ x y within.
    cut_within c.next_tile-next.result.rows c.and.result.rows (λ u v. c.and.ensures u v ∙ ap (λ rows. min (row_cells c.next_tile-next.result.rows u v) (row_cells rows u v)) c.of-2.ensures) x y within
    ∙ c.next_tile-next.ensures x y within)

pub returns-clause-edge : goal.returns-clause-edge
returns-clause-edge c = next_edge c.next_tile-next.result.rows c.and.result.rows
    (λ x y. c.and.ensures x y ∙ ap (λ rows. min (row_cells c.next_tile-next.result.rows x y) (row_cells rows x y)) c.of-2.ensures)

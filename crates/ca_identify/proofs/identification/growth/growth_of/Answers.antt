use Rattle.std.proofs.Common.{sym, ◌∙◌}
use Rattle.ca_plane.specs.Plane as plane
use Rattle.ca_quad.specs.Prelude.{cell}
use Rattle.ca_identify.proofs.LaterPlanes.{tree_picture}
use Rattle.ca_pattern.proofs.EqualCells.{population_shown}
use Rattle.ca_identify.proofs.identification.growth.growth_of.Goals as goal

pub unreachable-requires : goal.unreachable-requires
unreachable-requires c =
    let (picture, shows) = tree_picture c.args.store.now c.args.tree.now in
    let live = c.requires.live in
    (rw c.in-None.is at (c.in_ok-bounds.ensures picture shows)) (live.0, live.1, λ none. live.2 (shows live.0 live.1 ∙ none))

pub returns : goal.returns
returns c =
    let (picture, shows) = tree_picture c.args.store.now c.args.tree.now in (
      picture,
      (λ x y. sym (shows x y)),
      record {
        population = population_shown (cell c.args.store.now c.args.tree.now) (plane.cell picture) shows c.in_ok-cells.cells c.in_ok-cells.ensures;
        bounds = rw c.in-Some.is at (c.in_ok-bounds.ensures picture shows);
      },
    )

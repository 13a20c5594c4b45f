use Rattle.std.proofs.Common.{◌≡◌, suc, ◌+◌, subst, arith}
use Rattle.std.proofs.lemmas.Bool.Decides.{nat_tests}
use Rattle.ca_plane.specs.Prelude.{cells_after}
use Rattle.ca_bricks.specs.Prelude.{TileShows}
use Rattle.ca_bricks.specs.declared.cell_rule.CellRule.TheVariants.{ByDiagram}
use Rattle.ca_bricks.proofs.Tiles.{tile_goes_on}
use Rattle.ca_bricks.proofs.tile.later_by_diagram.Goals as goal

pub generations-preserved : goal.generations-preserved
generations-preserved c = λ next p a b goes_by shows.
    let n = c.generations.counter in
    let more : suc n ≡ n + 1 = omega arith in
    let now = c.in_ok-now.now.rows in
    subst (λ m. TileShows now m (cells_after next p m) a b) more
    (tile_goes_on next (ByDiagram c.args.diagram.now) goes_by c.generations.now.rows now c.in_ok-now.ensures n p a b (c.generations.invariant next p a b goes_by shows))

pub returns : goal.returns
returns c = λ next p a b goes_by shows.
    let all : c.generations.counter ≡ c.args.n = grind (arith, nat_tests) in
    subst (λ m. TileShows c.generations.now.rows m (cells_after next p m) a b) all (c.generations.invariant next p a b goes_by shows)

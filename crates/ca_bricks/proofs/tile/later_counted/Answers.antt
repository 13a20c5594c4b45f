use Rattle.std.proofs.Common.{◌≡◌, suc, ◌+◌, subst, arith}
use Rattle.std.proofs.lemmas.Bool.Decides.{nat_tests}
use Rattle.ca_plane.specs.Prelude.{cells_after}
use Rattle.ca_bricks.specs.Prelude.{TileShows}
use Rattle.ca_bricks.specs.declared.cell_rule.CellRule.TheVariants.{ByCounting}
use Rattle.ca_bricks.proofs.Tiles.{tile_goes_on}
use Rattle.ca_bricks.proofs.tile.later_counted.Goals as goal

pub generations-preserved : goal.generations-preserved
generations-preserved g c = λ next p a b goes_by shows.
    let n = c.generations.counter in
    let more : suc n ≡ n + 1 = omega arith in
    subst (λ m. TileShows c.next_tile-now.result.rows m (cells_after next p m) a b) more
    (tile_goes_on next (ByCounting c.args.counting) goes_by c.generations.now.rows c.next_tile-now.result.rows c.next_tile-now.ensures n p a b (c.generations.invariant next p a b goes_by shows))

pub returns : goal.returns
returns g c = λ next p a b goes_by shows.
    let all : c.generations.counter ≡ c.args.n = grind (arith, nat_tests) in
    subst (λ m. TileShows c.generations.now.rows m (cells_after next p m) a b) all (c.generations.invariant next p a b goes_by shows)

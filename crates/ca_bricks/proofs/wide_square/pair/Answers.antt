use Rattle.std.specs.Prelude.{pos, ◌+ℤ◌}
use Rattle.ca_plane.specs.Prelude.{cells_after}
use Rattle.ca_bricks.specs.Prelude.{WordShows}
use Rattle.ca_bricks.proofs.Overlaps.{west_four, east_four, pair_lies}
use Rattle.ca_bricks.proofs.wide_square.pair.Goals as goal

pub returns : goal.returns
returns c = λ next p a b goes_by north south.
    pair_lies WordShows 2 c.in_ok-west.west c.in_ok-east.east (cells_after next p c.args.n) a (b +ℤ pos 4)
    (c.in_ok-west.ensures next p a b goes_by (west_four north south))
    (c.in_ok-east.ensures next p (a +ℤ pos 8) b goes_by (east_four north south))

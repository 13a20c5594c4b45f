use Rattle.std.specs.Prelude.{pos, ◌+ℤ◌}
use Rattle.ca_plane.specs.Prelude.{cells_after}
use Rattle.ca_bricks.specs.Prelude.{WordShows}
use Rattle.ca_bricks.proofs.Overlaps.{trio_lies}
use Rattle.ca_bricks.proofs.wide_square.three_centres.Goals as goal

pub returns : goal.returns
returns c = λ next p a b goes_by west east.
    trio_lies WordShows 2 (record { west = c.in_ok-west.west; middle = c.in_ok-middle.middle; east = c.in_ok-east.east }) (cells_after next p c.args.n) a (b +ℤ pos 4)
    (c.in_ok-west.ensures next p a b goes_by west)
    (c.in_ok-middle.ensures next p (a +ℤ pos 8) b goes_by (c.middle_of_row-between.ensures p a b west east))
    (c.in_ok-east.ensures next p (a +ℤ pos 16) b goes_by east)

use Rattle.std.specs.Prelude.{pos, ◌+ℤ◌}
use Rattle.ca_plane.specs.Prelude.{cells_after}
use Rattle.ca_bricks.specs.Prelude.{WordShows}
use Rattle.ca_bricks.proofs.Overlaps.{rows_lie}
use Rattle.ca_bricks.proofs.wide_square.WideSquare.nine.Goals as goal

pub returns : goal.returns
returns c = λ next p a b goes_by shows.
    rows_lie WordShows 2 (record { north = c.in_ok-north.north; middle = c.in_ok-middle.middle; south = c.in_ok-south.south }) (cells_after next p c.args.n) (a +ℤ pos 4) b
    (c.in_ok-north.ensures next p a b goes_by shows.at_nw shows.at_ne)
    (c.in_ok-middle.ensures next p a (b +ℤ pos 8) goes_by (c.middle_of_column-west.ensures p a b shows.at_nw shows.at_sw) (c.middle_of_column-east.ensures p (a +ℤ pos 16) b shows.at_ne shows.at_se))
    (c.in_ok-south.ensures next p a (b +ℤ pos 16) goes_by shows.at_sw shows.at_se)

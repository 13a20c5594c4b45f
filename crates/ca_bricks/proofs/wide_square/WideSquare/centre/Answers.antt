use Rattle.std.proofs.Common.{◌+◌}
use Rattle.std.specs.Prelude.{pos, ◌+ℤ◌}
use Rattle.ca_plane.specs.Prelude.{cells_after}
use Rattle.ca_bricks.specs.Prelude.{WordShows}
use Rattle.ca_plane.proofs.After.{after_again}
use Rattle.ca_bricks.proofs.Tiles.{words_of_same}
use Rattle.ca_bricks.proofs.Overlaps.{four_lie}
use Rattle.ca_bricks.proofs.wide_square.WideSquare.centre.Goals as goal

pub returns : goal.returns
returns c = λ next p a b goes_by shows.
    let q = cells_after next p c.args.first in
    let nine = c.in_ok-nine.ensures next p a b goes_by shows in
    words_of_same _ (cells_after next q c.args.more) (cells_after next p (c.args.first + c.args.more)) (a +ℤ pos 8) (b +ℤ pos 8) (after_again next p c.args.first c.args.more)
    (four_lie WordShows 2 c.in_ok-nw.nw c.in_ok-nw.ne c.in_ok-sw.sw c.in_ok-sw.se (cells_after next q c.args.more) a b
    (c.in_ok-nw.ensures next q (a +ℤ pos 4) (b +ℤ pos 4) goes_by nine.at_north nine.at_middle)
    (c.in_ok-sw.ensures next q (a +ℤ pos 4) ((b +ℤ pos 4) +ℤ pos 8) goes_by nine.at_middle nine.at_south))

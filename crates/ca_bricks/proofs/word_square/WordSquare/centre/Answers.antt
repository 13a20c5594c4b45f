use Rattle.ca_plane.specs.Prelude.{cells_after}
use Rattle.ca_bricks.proofs.Tiles.{tile_less}
use Rattle.ca_bricks.proofs.word_square.WordSquare.centre.Goals as goal

pub returns : goal.returns
returns c = λ next p a b goes_by shows.
    c.middle.ensures (cells_after next p c.args.n) a b
    (tile_less c.in_ok-later.later.rows c.args.n 4 (cells_after next p c.args.n) a b c.requires (c.in_ok-later.ensures next p a b goes_by (c.tile_of.ensures p a b shows)))

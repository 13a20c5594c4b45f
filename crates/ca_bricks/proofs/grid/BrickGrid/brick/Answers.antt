use Rattle.std.proofs.Common.{◌+◌, ◌*◌, [], sym, subst, ◌∙◌}
use Rattle.std.specs.Prelude.{pos, ◌+ℤ◌}
use Rattle.std.proofs.lemmas.List.{get_or_default}
use Rattle.ca_bricks.specs.Prelude.{BrickShows}
use Rattle.ca_bricks.proofs.Grids.{brick_there, place_fits}
use Rattle.ca_bricks.proofs.grid.BrickGrid.brick.Goals as goal

pub returns : goal.returns
returns c = λ m p shows.
    let grid = c.args.self.now in
    let t = c.args.row * grid.across + c.args.column in
    let here = c.index.ensures ∙ get_or_default grid.bricks.items t c.index.result.now [] (place_fits grid c.requires.grid c.args.column c.args.row c.requires.column c.requires.row) in
    subst (λ rows. BrickShows rows p (grid.x +ℤ pos (64 * c.args.column)) (grid.y +ℤ pos (16 * c.args.row))) (sym here)
    (brick_there grid m p shows c.args.column c.args.row c.requires.column c.requires.row)

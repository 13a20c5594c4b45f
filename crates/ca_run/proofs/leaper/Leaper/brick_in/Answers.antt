use Rattle.std.proofs.Common.{◌+◌, ◌*◌, inl, inr, refl, ap, ◌∙◌}
use Rattle.ca_quad.specs.Prelude.{cell}
use Rattle.ca_run.specs.inner.Frames.{piece_start, row_start}
use Rattle.ca_run.proofs.GridBricks.{blank_shows, column_out, row_out}
use Rattle.ca_run.proofs.leaper.Leaper.brick_in.Goals as goal

pub returns-then-not-holds : goal.returns-then-not-holds
returns-then-not-holds g c = λ m framed.
    let frame = c.args.frame.now in
    let column = frame.columns.first + c.args.i in
    let bit = g.P.StatePlane.bit_of c.args.plane in
    blank_shows (λ x y. bit (cell c.args.self.now.nodes c.args.tree.now x y)) (piece_start column) (row_start (4 * frame.rows.first + c.args.j))
    (λ x y h k. ap bit (framed.inside _ _ (inl (column_out frame.columns column (c.if-not-holds.ensures refl) x h))) ∙ c.requires.none)

pub returns-then-not-holds-2 : goal.returns-then-not-holds-2
returns-then-not-holds-2 g c = λ m framed.
    let frame = c.args.frame.now in
    let row = 4 * frame.rows.first + c.args.j in
    let bit = g.P.StatePlane.bit_of c.args.plane in
    blank_shows (λ x y. bit (cell c.args.self.now.nodes c.args.tree.now x y)) (piece_start (frame.columns.first + c.args.i)) (row_start row)
    (λ x y h k. ap bit (framed.inside _ _ (inr (row_out frame.rows row (c.if-not-holds-2.ensures refl) y k))) ∙ c.requires.none)

use Rattle.std.proofs.Common.{◌≡◌, ◌+◌, ◌*◌, ◌/◌, ◌%◌, [], refl, ◌∙◌, arith}
use Rattle.std.specs.Prelude.{ℤ}
use Rattle.ca_quad.specs.Prelude.{cell}
use Rattle.ca_bricks.specs.Prelude.{BrickShows}
use Rattle.ca_run.specs.inner.Frames.{piece_start, row_start}
use Rattle.ca_run.proofs.GridBricks.{push_more, push_longer, row_of_bricks, framed_bits, framed_grid, near_grid, aligned_grid, start_reads}
use Rattle.ca_run.proofs.leaper.Leaper.grid_of.Goals as goal

pub brick_in-requires-clause-row : goal.brick_in-requires-clause-row
brick_in-requires-clause-row g c = row_of_bricks c.args.frame.now.columns.count c.args.frame.now.rows.count c.bricks.t (omega (arith, c.requires.frame.columns.wide)) c.bricks-test.true

pub bricks-preserved : goal.bricks-preserved
bricks-preserved g c =
    let inv = c.bricks.invariant in
    let frame = c.args.frame.now in
    let p = λ (x y : ℤ). g.P.StatePlane.bit_of c.args.plane (cell c.args.self.now.nodes c.args.tree.now x y) in
    let list = c.bricks.bricks.items in
    let new = c.push.new.self.items in
    let t = c.bricks.t in
    let rows = c.in-Some.brick in
    let items = c.in_ok-push.ensures.items in
    record {
      size = push_longer list new t rows items inv.size;
      shown = λ m framed k h.
          push_more (λ k brick. BrickShows brick p (piece_start (frame.columns.first + k % frame.columns.count)) (row_start (4 * frame.rows.first + k / frame.columns.count))) list new t rows [] items inv.size
          (inv.shown m framed) (c.in-Some.ensures m framed) k h;
    }

pub returns-clause-shows : goal.returns-clause-shows
returns-clause-shows g c = λ m framed.
    let frame = c.args.frame.now in
    let inv = c.bricks.invariant in
    let all : c.bricks.t ≡ 4 * (frame.columns.count * frame.rows.count) = omega (arith, c.bricks-test.false, c.bricks.auto.t-end) in
    let bit = g.P.StatePlane.bit_of c.args.plane in
    let p = cell c.args.self.now.nodes c.args.tree.now in
    framed_grid _ frame m (λ x y. bit (p x y)) c.requires.frame (framed_bits m frame p bit c.requires.none framed)
    (start_reads frame.columns.first c.start.result (omega (arith, c.requires.frame.columns.far)) c.start.ensures)
    (start_reads frame.rows.first c.start-2.result (omega (arith, c.requires.frame.rows.far)) c.start-2.ensures) refl refl (inv.size ∙ all)
    (λ t h. inv.shown m framed t (omega (arith, inv.size, h)))

pub returns-clause-place : goal.returns-clause-place
returns-clause-place g c =
    let frame = c.args.frame.now in
    record {
      x = start_reads frame.columns.first c.start.result (omega (arith, c.requires.frame.columns.far)) c.start.ensures;
      y = start_reads frame.rows.first c.start-2.result (omega (arith, c.requires.frame.rows.far)) c.start-2.ensures;
      across = refl;
      down = refl;
      size = c.bricks.invariant.size ∙ omega (arith, c.bricks-test.false, c.bricks.auto.t-end);
    }

pub returns-clause-fresh : goal.returns-clause-fresh
returns-clause-fresh g c =
    let frame = c.args.frame.now in
    let x = start_reads frame.columns.first c.start.result (omega (arith, c.requires.frame.columns.far)) c.start.ensures in
    let y = start_reads frame.rows.first c.start-2.result (omega (arith, c.requires.frame.rows.far)) c.start-2.ensures in
    let all : c.bricks.t ≡ 4 * (frame.columns.count * frame.rows.count) = omega (arith, c.bricks-test.false, c.bricks.auto.t-end) in
    record {
      near = near_grid _ frame c.requires.frame x y refl refl;
      aligned = aligned_grid _ frame x y;
      room = omega (arith, c.bricks.invariant.size, all, c.requires.frame.few, c.requires.frame.columns.few);
      few = omega (arith, c.bricks.invariant.size, all, c.requires.frame.few);
      unstepped = refl;
    }

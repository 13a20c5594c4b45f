use Rattle.std.proofs.Common.{arith}
use Rattle.std.proofs.lemmas.Int.{ints}
use Rattle.ca_run.proofs.LiveFrames.{spans_counted}
use Rattle.ca_run.proofs.bricks.frame.frame_of.Goals as goal

pub returns-clause-columns : goal.returns-clause-columns
returns-clause-columns c =
    let near = c.requires.near in
    spans_counted c.args.bounds.x0 c.args.bounds.x1 c.args.margin c.in_ok-columns.columns near.west (omega (arith, ints, near.across, near.east)) (omega (arith, ints, near.west, near.across)) near.east
    c.in_ok-columns.ensures.spans

pub returns-clause-rows : goal.returns-clause-rows
returns-clause-rows c =
    let near = c.requires.near in
    spans_counted c.args.bounds.y0 c.args.bounds.y1 c.args.margin c.in_ok-rows.rows near.north (omega (arith, ints, near.down, near.south)) (omega (arith, ints, near.north, near.down)) near.south
    c.in_ok-rows.ensures.spans

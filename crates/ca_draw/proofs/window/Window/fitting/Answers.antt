use Rattle.std.proofs.Common.{◌≤◌, arith}
use Rattle.ca_draw.proofs.Boxes.{whole, four_show}
use Rattle.ca_draw.proofs.window.Window.fitting.Goals as goal

pub returns-clause-some : goal.returns-clause-some
returns-clause-some c = λ reach i j.
    let low : c.scales.scale ≤ 124 = c.scales.invariant (whole c.args.bounds reach c.args.columns c.args.rows) (four_show c.args.bounds reach c.args.columns c.args.rows i j) in
    absurd (omega arith)

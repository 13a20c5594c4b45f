use Rattle.std.proofs.Common.{rules}
use Rattle.std.specs.Int.{w128}
use Rattle.std.proofs.lemmas.Int.{to_z-of_z}
use Rattle.ca_report.proofs.After.{puts_then}
use Rattle.ca_pattern_runs.proofs.caption.push_sides.Goals as goal

pub returns : goal.returns
returns c =
    let first = puts_then _ _ _ _ _ _ c.in_ok-push_side.ensures (puts_then _ _ _ _ _ _ c.in_ok-push_text.ensures c.push_side-2.ensures) in
    rw (to_z-of_z w128 c.args.bounds.x0 (search rules), to_z-of_z w128 c.args.bounds.x1 (search rules), to_z-of_z w128 c.args.bounds.y0 (search rules), to_z-of_z w128 c.args.bounds.y1 (search rules)) at first

use Rattle.std.proofs.Common.{◌-◌, ◌<◌, length, ap, arith}
use Rattle.std.specs.Prelude.{Err}
use Rattle.ca_clusters.proofs.PartRuns.{LeavesAlone-last}
use Rattle.ca_clusters.proofs.part.later_plane.Goals as goal

pub returns-in-Err-Range-clause-range : goal.returns-in-Err-Range-clause-range
returns-in-Err-Range-clause-range g c = λ _.
    let planes = c.args.planes.now in
    let low : length planes - 1 < length planes = omega (arith, c.requires.some) in
    LeavesAlone-last (g.A.Automaton.next_of c.args.rule.now) (g.A.Automaton.state_count c.args.rule.now) planes _ (length planes - 1)
    c.requires low c.index-planes-planes.is (c.in-Err-Range.ensures.range (ap Err c.in-Err-Range.field-0-is))

use Rattle.std.proofs.Common.{sym, arith}
use Rattle.std.proofs.lemmas.Int.{ints}
use Rattle.ca_parts.proofs.PartedTracks.{ReachesAcross-swept}
use Rattle.ca_parts.proofs.phases.Phases.across.Goals as goal

pub returns-clause-ends : goal.returns-clause-ends
returns-clause-ends c =
    let near = c.self.invariant.near in
    ReachesAcross-swept c.self.inside c.args.self.now _ (sym c.self.view_is) (omega (arith, ints, near.low, near.high)) (omega (arith, ints, near.low, near.high)) c.self.invariant

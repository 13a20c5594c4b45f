use Rattle.std.proofs.Common.{arith}
use Rattle.ca_clusters.proofs.PairLooks.{IsTrueLook-row}
use Rattle.ca_clusters.proofs.meetings.with_part.Goals as goal

pub returns-clause-look : goal.returns-clause-look
returns-clause-look c = IsTrueLook-row c.args.parts.now c.parts.one c.args.other c.parts.look (omega arith) c.parts.invariant.look

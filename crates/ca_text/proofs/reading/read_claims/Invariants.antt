use Rattle.std.proofs.Common.{length}
use Rattle.ca_text.proofs.AllLines.{HasRead}
use Rattle.ca_text.proofs.reading.read_claims.Given as goal

abbrev pub invariant-lines : goal.invariant-lines
invariant-lines l = HasRead l.bytes l.rest l.number l.reading

abbrev pub decreases-lines : goal.decreases-lines
decreases-lines l = length l.rest

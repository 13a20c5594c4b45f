use Rattle.std.proofs.Common.{length}
use Rattle.ca_import.proofs.LinesRead.{AreRead}
use Rattle.ca_import.proofs.import.read_lines.Given as goal

abbrev pub invariant-lines : goal.invariant-lines
invariant-lines l = AreRead l.format l.bytes l.rest l.number l.reading

abbrev pub decreases-lines : goal.decreases-lines
decreases-lines l = length l.rest

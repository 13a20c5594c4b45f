use Rattle.std.proofs.Common.{length}
use Rattle.ca_macro.proofs.LinesRead.{AreRead}
use Rattle.ca_macro.proofs.read.read_text.Given as goal

abbrev pub invariant-lines : goal.invariant-lines
invariant-lines l = AreRead l.bytes l.rest l.number l.fn.store l.store l.reading

abbrev pub decreases-lines : goal.decreases-lines
decreases-lines l = length l.rest

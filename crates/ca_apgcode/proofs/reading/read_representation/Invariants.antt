use Rattle.std.proofs.Common.{length}
use Rattle.ca_apgcode.proofs.ReadTexts.{Reads}
use Rattle.ca_apgcode.proofs.reading.read_representation.Given as goal

-- the steps so far are drawn, and the rest follows them
abbrev pub invariant-steps : goal.invariant-steps
invariant-steps l = Reads l.text l.rest l.drawing.columns.items l.drawing.x l.drawing.y

abbrev pub decreases-steps : goal.decreases-steps
decreases-steps l = length l.rest

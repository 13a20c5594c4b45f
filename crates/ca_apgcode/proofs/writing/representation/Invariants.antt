use Rattle.ca_apgcode.specs.Prelude.{cell}
use Rattle.ca_apgcode.proofs.Strips.{BeginsStrips}
use Rattle.ca_apgcode.proofs.writing.representation.Given as goal

-- the strips so far are written
abbrev pub invariant-strips : goal.invariant-strips
invariant-strips l = BeginsStrips (cell l.grid) l.strip l.text.items

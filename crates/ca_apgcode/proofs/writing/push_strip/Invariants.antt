use Rattle.ca_apgcode.specs.Prelude.{cell}
use Rattle.ca_apgcode.proofs.Steps.{BeginsStrip}
use Rattle.ca_apgcode.proofs.writing.push_strip.Given as goal

-- the columns so far are written
abbrev pub invariant-columns : goal.invariant-columns
invariant-columns l = BeginsStrip (cell l.grid) l.y l.x l.gap l.fn.text.items l.text.items

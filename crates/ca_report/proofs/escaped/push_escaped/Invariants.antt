use Rattle.std.proofs.Common.{◌≡◌, ◌++◌, length}
use Rattle.ca_report.specs.Prelude.{escaped}
use Rattle.ca_report.proofs.escaped.push_escaped.Given as goal

-- with what is left it will be the whole text
abbrev pub invariant-parts : goal.invariant-parts
invariant-parts l = l.out.items ++ escaped l.rest ≡ l.fn.out.items ++ escaped l.fn.text

abbrev pub decreases-parts : goal.decreases-parts
decreases-parts l = length l.rest

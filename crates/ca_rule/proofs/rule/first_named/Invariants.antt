use Rattle.std.proofs.Common.{◌≡◌, length}
use Rattle.ca_rule.specs.Prelude.{first_named}
use Rattle.ca_rule.proofs.rule.first_named.Given as goal

-- it is the first of this name among those that are left
abbrev pub invariant-tables : goal.invariant-tables
invariant-tables l = first_named l.fn.name l.fn.tables ≡ first_named l.fn.name l.left

abbrev pub decreases-tables : goal.decreases-tables
decreases-tables l = length l.left

use Rattle.std.proofs.Common.{◌≡◌, length}
use Rattle.ca_rule_files.specs.Prelude.{has_kind}
use Rattle.ca_rule_files.proofs.kind_list.has_kind.Given as goal

-- the whole list has the kind where what is left has it
abbrev pub invariant-parts : goal.invariant-parts
invariant-parts l = has_kind l.fn.list l.fn.nine ≡ has_kind l.left l.fn.nine

abbrev pub decreases-parts : goal.decreases-parts
decreases-parts l = length l.left

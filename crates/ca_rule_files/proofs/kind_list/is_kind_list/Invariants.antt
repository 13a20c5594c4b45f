use Rattle.std.proofs.Common.{◌≡◌, length}
use Rattle.ca_rule_files.specs.Prelude.{is_kind_list}
use Rattle.ca_rule_files.proofs.kind_list.is_kind_list.Given as goal

-- all is a list of kinds where what is left is one
abbrev pub invariant-parts : goal.invariant-parts
invariant-parts l = is_kind_list l.fn.list ≡ is_kind_list l.left

abbrev pub decreases-parts : goal.decreases-parts
decreases-parts l = length l.left

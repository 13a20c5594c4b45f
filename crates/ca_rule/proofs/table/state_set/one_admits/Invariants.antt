use Rattle.std.proofs.Common.{◌≡◌, length}
use Rattle.std.specs.List.{list_any}
use Rattle.ca_rule.specs.Prelude.{admits}
use Rattle.ca_rule.proofs.table.state_set.one_admits.Given as goal

-- the answer lies with the slots that are left
abbrev pub invariant-slots : goal.invariant-slots
invariant-slots l = list_any (λ slot. admits l.variables slot l.fn.state) l.slots ≡ list_any (λ slot. admits l.variables slot l.fn.state) l.left

abbrev pub decreases-slots : goal.decreases-slots
decreases-slots l = length l.left

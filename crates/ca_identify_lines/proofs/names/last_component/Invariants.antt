use Rattle.std.proofs.Common.{◌≡◌, length}
use Rattle.ca_identify_lines.specs.Prelude.{last_component}
use Rattle.ca_identify_lines.proofs.names.last_component.Given as goal

-- what is left has the same last component
abbrev pub invariant-bytes : goal.invariant-bytes
invariant-bytes l = last_component l.fn.path ≡ last_component l.left

abbrev pub decreases-bytes : goal.decreases-bytes
decreases-bytes l = length l.left

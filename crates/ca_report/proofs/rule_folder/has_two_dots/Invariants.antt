use Rattle.std.proofs.Common.{◌≡◌, length}
use Rattle.ca_report.specs.Prelude.{has_two_dots}
use Rattle.ca_report.proofs.rule_folder.has_two_dots.Given as goal

-- it has two dots side by side exactly where what is left has
abbrev pub invariant-bytes : goal.invariant-bytes
invariant-bytes l = has_two_dots l.fn.name ≡ has_two_dots l.left

abbrev pub decreases-bytes : goal.decreases-bytes
decreases-bytes l = length l.left

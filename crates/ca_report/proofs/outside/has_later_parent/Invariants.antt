use Rattle.std.proofs.Common.{◌≡◌, length}
use Rattle.ca_report.specs.Prelude.{has_later_parent}
use Rattle.ca_report.proofs.outside.has_later_parent.Given as goal

-- a later part is `..` exactly where one of what is left is
abbrev pub invariant-bytes : goal.invariant-bytes
invariant-bytes l = has_later_parent l.fn.path ≡ has_later_parent l.left

abbrev pub decreases-bytes : goal.decreases-bytes
decreases-bytes l = length l.left

use Rattle.std.proofs.Common.{◌≡◌, ◌+◌, ◌≤◌, length}
use Rattle.ca_plane.specs.Prelude.{lines_of}
use Rattle.ca_rule.proofs.table.said_lines.last_line.Given as goal

-- the lines are those that are counted and those that are left
abbrev pub invariant-lines : goal.invariant-lines
invariant-lines l = (l.count + length (lines_of l.left) ≡ length (lines_of l.text)) × (l.count + length l.left ≤ length l.text)

abbrev pub decreases-lines : goal.decreases-lines
decreases-lines l = length l.left

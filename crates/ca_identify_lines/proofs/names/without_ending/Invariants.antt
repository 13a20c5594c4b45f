use Rattle.std.proofs.Common.{◌≡◌, List, ◌++◌, ℕ, false, length}
use Rattle.std.specs.List.{list_any}
use Rattle.ca_identify_lines.proofs.Endings.{is_dot}
use Rattle.ca_identify_lines.proofs.names.without_ending.Given as goal

-- no dot follows what is in front
abbrev pub invariant-bytes : goal.invariant-bytes
invariant-bytes l = (later : List ℕ) × (l.fn.name ≡ l.front ++ later) × (list_any is_dot later ≡ false)

abbrev pub decreases-bytes : goal.decreases-bytes
decreases-bytes l = length l.front

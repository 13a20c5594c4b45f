use Rattle.std.proofs.Common.{◌≤◌, ◌-◌}
use Rattle.ca_plane.specs.Prelude.{text_of, Puts}
use Rattle.ca_rule_files.specs.GenerationsTables.{dying_lines}
use Rattle.ca_rule_files.proofs.generations.push_dying_transitions.Given as goal

-- the transitions of the states before are put
abbrev pub invariant-dying : goal.invariant-dying
invariant-dying l = record {
  low : 2 ≤ l.state;
  puts : Puts l.initial.out.items l.out.items (text_of (dying_lines l.states (l.state - 2)));
}

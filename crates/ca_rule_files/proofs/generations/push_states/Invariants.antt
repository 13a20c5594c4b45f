use Rattle.std.proofs.Common.{◌≤◌, ◌-◌}
use Rattle.ca_plane.specs.Prelude.{Puts}
use Rattle.ca_rule_files.specs.GenerationsTables.{listed_states}
use Rattle.ca_rule_files.proofs.generations.push_states.Given as goal

-- the states before are put
abbrev pub invariant-states : goal.invariant-states
invariant-states l = record {
  low : l.from ≤ l.state;
  puts : Puts l.initial.out.items l.out.items (listed_states l.from (l.state - l.from));
}

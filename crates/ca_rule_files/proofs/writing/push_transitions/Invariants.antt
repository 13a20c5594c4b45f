use Rattle.ca_plane.specs.Prelude.{text_of, Puts}
use Rattle.ca_rule_files.specs.WrittenTables.{transition_lines}
use Rattle.ca_rule_files.proofs.writing.push_transitions.Given as goal

-- the transitions of the numbers before are put
abbrev pub invariant-numbers : goal.invariant-numbers
invariant-numbers g l = Puts l.initial.out.items l.out.items (text_of (transition_lines l.variables (g.A.Automaton.next_of l.rule) l.number))

use Rattle.ca_plane.specs.Prelude.{text_of, Puts}
use Rattle.ca_rule_files.specs.GenerationsTables.{variable_lines}
use Rattle.ca_rule_files.proofs.generations.push_variables.Given as goal

-- the lines of the variables before are put
abbrev pub invariant-variables : goal.invariant-variables
invariant-variables l = Puts l.initial.out.items l.out.items (text_of (variable_lines l.states l.variable))

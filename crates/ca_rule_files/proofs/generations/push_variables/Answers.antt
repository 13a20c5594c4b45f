use Rattle.ca_rule_files.proofs.WrittenFiles.{variable-more}
use Rattle.ca_rule_files.proofs.generations.push_variables.Goals as goal

pub variables-preserved : goal.variables-preserved
variables-preserved c = variable-more c.args.states c.variables.variable c.args.out.now.items c.variables.out.items c.push_variable.new.out.items c.variables.invariant c.in_ok-push_variable.ensures

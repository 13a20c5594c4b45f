use Rattle.std.proofs.Common.{arith}
use Rattle.ca_rule_files.proofs.WrittenFiles.{state-more}
use Rattle.ca_rule_files.proofs.generations.push_states.Goals as goal

pub states-preserved : goal.states-preserved
states-preserved c = record {
  low = omega (arith, c.states.invariant.low);
  puts = state-more c.args.from c.states.state c.args.out.now.items c.states.out.items c.push_state.new.out.items c.states.invariant.low c.states.invariant.puts c.in_ok-push_state.ensures;
}

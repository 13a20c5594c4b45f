use Rattle.std.proofs.Common.{arith}
use Rattle.ca_rule_files.proofs.WrittenFiles.{dying-more}
use Rattle.ca_rule_files.proofs.generations.push_dying_transitions.Goals as goal

pub dying-preserved : goal.dying-preserved
dying-preserved c = record {
  low = omega (arith, c.dying.invariant.low);
  puts = dying-more c.args.states c.dying.state c.args.out.now.items c.dying.out.items c.push_dying_transition.new.out.items c.dying.invariant.low c.dying.invariant.puts c.in_ok-push_dying_transition.ensures;
}

use Rattle.ca_rule.proofs.RuleAgeing.{goes_by_ageing}
use Rattle.ca_rule.proofs.gen_rule.GenRuleAutomaton.ageing.Goals as goal

pub returns-clause-goes_by : goal.returns-clause-goes_by
returns-clause-goes_by c = rw (c.mask.ensures, c.mask-2.ensures) (goes_by_ageing c.args.self.now.birth c.args.self.now.survival c.args.self.now.states)

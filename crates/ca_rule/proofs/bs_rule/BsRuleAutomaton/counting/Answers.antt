use Rattle.ca_rule.proofs.RuleMasks.{goes_by_counting}
use Rattle.ca_rule.proofs.bs_rule.BsRuleAutomaton.counting.Goals as goal

pub returns-clause-goes_by : goal.returns-clause-goes_by
returns-clause-goes_by c = rw (c.neighbourhood.ensures, c.mask.ensures, c.mask-2.ensures) (goes_by_counting c.args.self.now.hood c.args.self.now.birth c.args.self.now.survival)

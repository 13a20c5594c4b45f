use Rattle.ca_rule.proofs.RuleMasks.{goes_by_masks}
use Rattle.ca_rule.proofs.bs_rule.BsRuleAutomaton.masks.Goals as goal

pub returns-in-Moore-clause-moore : goal.returns-in-Moore-clause-moore
returns-in-Moore-clause-moore c = rw (c.in-Moore.is, c.mask.ensures, c.mask-in-Moore.ensures) (goes_by_masks c.args.self.now.birth c.args.self.now.survival)

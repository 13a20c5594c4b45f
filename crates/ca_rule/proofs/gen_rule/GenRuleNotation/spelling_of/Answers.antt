use Rattle.std.proofs.Common.{rules}
use Rattle.ca_rule.proofs.SpelledDigits.{IfNone-from}
use Rattle.ca_rule.proofs.GenerationsRead.{read-spelled, none-spelled}
use Rattle.ca_rule.proofs.gen_rule.GenRuleNotation.spelling_of.Goals as goal

pub returns-in_err-survival-clause-none : goal.returns-in_err-survival-clause-none
returns-in_err-survival-clause-none c = IfNone-from _ (none-spelled c.args.text.now (search rules))

pub returns-in_err-birth-clause-none : goal.returns-in_err-birth-clause-none
returns-in_err-birth-clause-none c = IfNone-from _ (none-spelled c.args.text.now (search rules))

pub returns-in_err-states-clause-none : goal.returns-in_err-states-clause-none
returns-in_err-states-clause-none c = IfNone-from _ (none-spelled c.args.text.now (search rules))

pub returns-then-not-are_digits_up_to-clause-none : goal.returns-then-not-are_digits_up_to-clause-none
returns-then-not-are_digits_up_to-clause-none c = none-spelled c.args.text.now (search rules)

pub returns-clause-found : goal.returns-clause-found
returns-clause-found c = read-spelled c.args.text.now (c.in_ok-survival.survival.now, c.in_ok-birth.birth.now, c.in_ok-states.states) (search rules)

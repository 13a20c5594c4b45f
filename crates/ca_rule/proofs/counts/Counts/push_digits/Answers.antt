use Rattle.std.proofs.Common.{arith}
use Rattle.std.proofs.lemmas.Grind.{common_steps}
use Rattle.ca_rule.proofs.PrintedRules.{push_counted, digits_from-other}
use Rattle.ca_rule.proofs.counts.Counts.push_digits.Goals as goal
use Rattle.ca_rule.proofs.counts.Counts.push_digits.Goals.{then-contains+in_ok-push, else-contains}

pub counts-preserved : goal.counts-preserved
counts-preserved c =
    elim c.if-contains.branch [
      | then-contains+in_ok-push w ↦ grind (arith, common_steps, push_counted c.args.self c.counts.count c.counts.out.items)
      | else-contains w ↦ grind (arith, common_steps, digits_from-other c.args.self c.counts.count)
    ]

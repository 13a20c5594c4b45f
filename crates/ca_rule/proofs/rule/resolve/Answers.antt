use Rattle.ca_rule.proofs.Meaning.{names-no_colon}
use Rattle.ca_rule.proofs.rule.resolve.Goals as goal

pub returns-in-Ok-clause-found : goal.returns-in-Ok-clause-found
returns-in-Ok-clause-found c = (names-no_colon c.args.text.now c.in-Ok.bs c.in-Ok.ensures.found, c.in-Ok.ensures.found)

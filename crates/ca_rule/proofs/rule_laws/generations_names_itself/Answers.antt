use Rattle.std.proofs.Common.{◌∙◌}
use Rattle.ca_rule.proofs.GenerationsPrinted.{names_itself}
use Rattle.ca_rule.proofs.rule_laws.generations_names_itself.Goals as goal

pub returns : goal.returns
returns c = let rule = c.args.rule.now in
    names_itself rule (c.places.ensures.holds ∙ c.places.ensures.places) (c.places-2.ensures.holds ∙ c.places-2.ensures.places) rule.stays_empty rule.low rule.high

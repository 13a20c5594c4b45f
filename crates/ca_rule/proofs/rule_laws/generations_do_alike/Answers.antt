use Rattle.std.proofs.Common.{◌∙◌}
use Rattle.ca_rule.proofs.GenerationsAlike.{do-alike}
use Rattle.ca_rule.proofs.rule_laws.generations_do_alike.Goals as goal

pub returns : goal.returns
returns c =
    let a = c.args.a.now in
    let b = c.args.b.now in
    do-alike a.survival a.birth b.survival b.birth a.states b.states a.low (c.places.ensures.holds ∙ c.places.ensures.places) (c.places-2.ensures.holds ∙ c.places-2.ensures.places)
    (c.places-3.ensures.holds ∙ c.places-3.ensures.places) (c.places-4.ensures.holds ∙ c.places-4.ensures.places)

use Rattle.std.proofs.Common.{◌∙◌, ap}
use Rattle.ca_rule.specs.inner.TableChoice.{taken_of, free_of}
use Rattle.ca_rule.proofs.CrowdedSlots.{none-fits}
use Rattle.ca_rule.proofs.table.transition.Transition.has_crowd.Goals as goal

pub returns : goal.returns
returns c = λ found.
    none-fits c.args.variables.now c.args.nine.now c.args.self.now (taken_of c.args.choice.now) (free_of c.args.choice.now) c.deref.result.now c.taken_places.result.now c.free_places.result.now
    (c.deref.ensures.value ∙ ap (λ l. l.inputs) c.self.view_is) c.taken_places.ensures c.free_places.ensures (c.has_crowd.ensures found)

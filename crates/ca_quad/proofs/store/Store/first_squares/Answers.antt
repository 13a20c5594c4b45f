use Rattle.std.proofs.Common.{sym, subst, ◌∙◌}
use Rattle.ca_quad.specs.Prelude.{IsSoundStore}
use Rattle.ca_quad.proofs.Firsts.{firsts_sound}
use Rattle.ca_quad.proofs.store.Store.first_squares.Goals as goal

pub invariant_of-result : goal.invariant_of-result
invariant_of-result c =
    subst IsSoundStore (sym (c.shrink_to_fit.ensures.keys ∙ c.truncate.ensures.keys)) (firsts_sound c.args.count c.self.inside.nodes.keys c.self.invariant)

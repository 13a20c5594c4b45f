use Rattle.std.proofs.Common.{sym, ap, ◌∙◌}
use Rattle.ca_rule.specs.Prelude.{two_may_fit}
use Rattle.ca_rule.proofs.SymmetryPlaces.{fit-unpermuted}
use Rattle.ca_rule.proofs.table.ties.orders_may_fit.Goals as goal

pub returns-in_default : goal.returns-in_default
returns-in_default c =
    c.two_may_fit.ensures ∙ ap (two_may_fit c.args.states c.args.variables.now c.args.number c.args.slots.now) (c.placements-placements.ensures c.in_default.not-Permute)
    ∙ sym (fit-unpermuted c.args.states c.args.variables.now c.args.neighbourhood c.args.symmetry c.args.number c.args.slots.now c.in_default.not-Permute)

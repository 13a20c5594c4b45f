use Rattle.std.proofs.Common.{sym, subst}
use Rattle.ca_identify_lines.specs.inner.Tried.{IsTried, AreTried}
use Rattle.ca_identify_lines.proofs.TriedNames.{tried_put}
use Rattle.ca_identify_lines.proofs.taken_names.TakenNames.note_tried.Goals as goal

pub invariant_of-self-2 : goal.invariant_of-self-2
invariant_of-self-2 c =
    let tried = subst (λ names. IsTried names c.args.name.items c.args.count) (sym c.self.view_is) c.requires in
    subst (AreTried c.self.inside.names) (sym c.in_ok-insert.ensures.entries) (tried_put c.self.inside.names c.args.name c.args.count c.self.inside.tried.entries tried c.self.invariant)

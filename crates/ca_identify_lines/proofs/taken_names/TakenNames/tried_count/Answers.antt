use Rattle.std.proofs.Common.{sym, subst}
use Rattle.ca_identify_lines.specs.inner.Tried.{IsTried}
use Rattle.ca_identify_lines.proofs.TriedNames.{tried_found}
use Rattle.ca_identify_lines.proofs.taken_names.TakenNames.tried_count.Goals as goal

pub returns-in-Some : goal.returns-in-Some
returns-in-Some c =
    subst (λ names. IsTried names c.args.name.now c.in-Some.count.now) c.self.view_is
    (tried_found c.self.inside.names c.args.name.now c.self.inside.tried.entries c.in-Some.count.now c.self.invariant (sym c.in-Some.ensures.value))

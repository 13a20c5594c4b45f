use Rattle.std.proofs.Common.{sym, subst}
use Rattle.ca_quad.specs.Prelude.{IsTree}
use Rattle.ca_quad.proofs.Shifts.{some_level}
use Rattle.ca_run.proofs.Levels.{trim_level}
use Rattle.ca_run.proofs.ShownPlanes.{leaper_stays}
use Rattle.ca_run.proofs.leaper.Leaper.trim.Goals as goal

pub invariant_of-self : goal.invariant_of-self
invariant_of-self g c = leaper_stays c.self.invariant c.trim.ensures.grows

pub returns-clause-level : goal.returns-clause-level
returns-clause-level g c =
    let is_tree = subst (λ l. IsTree l.nodes c.args.tree) (sym c.self.view_is) c.requires.tree in
    let some = some_level c.self.inside.store c.self.invariant.squares c.args.tree is_tree in
    trim_level c.trim.result c.self.inside.store c.trim.new.self c.args.tree some c.trim.ensures.cells c.trim.ensures.trimmed

use Rattle.std.proofs.Common.{sym, subst}
use Rattle.ca_quad.specs.Prelude.{AreCopies}
use Rattle.ca_run.proofs.ShownPlanes.{leaper_stays}
use Rattle.ca_run.proofs.leaper.Leaper.import_square.Goals as goal

pub import_square-requires-clause-copies : goal.import_square-requires-clause-copies
import_square-requires-clause-copies g c = subst (λ l. AreCopies c.args.from.now l.nodes c.args.copies.now) (sym c.self.view_is) c.requires.copies

pub invariant_of-self : goal.invariant_of-self
invariant_of-self g c = leaper_stays c.self.invariant c.import_square.ensures.grows

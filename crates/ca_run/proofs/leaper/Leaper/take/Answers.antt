use Rattle.ca_run.proofs.ShownPlanes.{leaper_stays}
use Rattle.ca_run.proofs.leaper.Leaper.take.Goals as goal

pub invariant_of-self : goal.invariant_of-self
invariant_of-self g c = leaper_stays c.self.invariant c.import.ensures.grows

pub invariant_of-self-2 : goal.invariant_of-self-2
invariant_of-self-2 g c = leaper_stays c.self.invariant c.import.ensures.grows

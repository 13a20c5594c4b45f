use Rattle.ca_run.proofs.ShownPlanes.{leaper_stays}
use Rattle.ca_run.proofs.leaper.Leaper.from_word.Goals as goal

pub invariant_of-self : goal.invariant_of-self
invariant_of-self g c = leaper_stays c.self.invariant c.from_word.ensures.grows

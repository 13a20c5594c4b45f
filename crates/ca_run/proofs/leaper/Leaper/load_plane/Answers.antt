use Rattle.ca_run.proofs.PlaneLevels.{loaded_low}
use Rattle.ca_run.proofs.ShownPlanes.{leaper_stays}
use Rattle.ca_run.proofs.leaper.Leaper.load_plane.Goals as goal

pub invariant_of-self : goal.invariant_of-self
invariant_of-self g c = leaper_stays c.self.invariant c.from_plane.ensures.grows

pub returns-clause-level : goal.returns-clause-level
returns-clause-level g c =
    loaded_low c.from_plane.new.self c.from_plane.result c.args.plane.now c.len-count.ensures.sparse c.from_plane.ensures.cells c.from_plane.ensures.trimmed

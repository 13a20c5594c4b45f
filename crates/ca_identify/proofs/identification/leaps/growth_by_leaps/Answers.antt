use Rattle.ca_run.proofs.LeaperGrowth.{goes_on_same}
use Rattle.ca_identify.proofs.identification.leaps.growth_by_leaps.Goals as goal

pub returns-then-seen-limit-clause-goes_on : goal.returns-then-seen-limit-clause-goes_on
returns-then-seen-limit-clause-goes_on g c = goes_on_same _ c.args.leaper.now c.requires.first.sound

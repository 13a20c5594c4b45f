use Rattle.cafile.proofs.judge.report.Goals as goal

pub returns : goal.returns
returns g c = rw c.limits-limits.ensures.work at c.verify_watched.ensures.tells

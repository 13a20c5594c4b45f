use Rattle.ca_run.proofs.Costs.{at_cost_none}
use Rattle.ca_run.proofs.leaper.Leaper.charge_watched.Goals as goal

pub returns-then-is_full-clause-at_cost : goal.returns-then-is_full-clause-at_cost
returns-then-is_full-clause-at_cost g c = at_cost_none c.args.self.now c.is_full.ensures

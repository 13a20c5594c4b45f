use Rattle.ca_steps.proofs.Heads.{IsFirstPlace-from_head, within-head}
use Rattle.ca_steps.proofs.row.CellsAhead.first.Goals as goal

pub returns-clause-first : goal.returns-clause-first
returns-clause-first c = IsFirstPlace-from_head _ _ _ _ c.self.invariant c.self.view_is c.in_ok-point.ensures.cases.0

pub returns-clause-within : goal.returns-clause-within
returns-clause-within c = within-head _ _ _ c.self.invariant c.in_ok-point.ensures.cases.0

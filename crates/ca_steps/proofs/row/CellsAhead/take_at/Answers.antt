use Rattle.ca_steps.proofs.Heads.{IsSparse-from_tail, quiet_from_test, IsWithout-quiet, without_from_test}
use Rattle.ca_steps.proofs.row.CellsAhead.take_at.Goals as goal

pub returns-then-ne-clause-state : goal.returns-then-ne-clause-state
returns-then-ne-clause-state c = quiet_from_test _ _ _ _ c.args.at c.self.invariant c.self.view_is c.in-Some.ensures.cases.0 c.requires c.if-ne.ensures

pub returns-then-ne-clause-over : goal.returns-then-ne-clause-over
returns-then-ne-clause-over c = IsWithout-quiet _ c.args.at (returns-then-ne-clause-state c)

pub invariant_of-self : goal.invariant_of-self
invariant_of-self c = IsSparse-from_tail _ _ _ c.self.invariant c.in-Some.ensures.cases.0

pub returns-clause-over : goal.returns-clause-over
returns-clause-over c = without_from_test _ _ _ _ c.args.at c.self.invariant c.self.view_is c.in-Some.ensures.cases.0 c.if-ne.ensures

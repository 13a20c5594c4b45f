use Rattle.std.proofs.Common.{sym}
use Rattle.ca_memo.proofs.slots.Slots.count_one.Goals as goal

pub returns-then-self-eq0-clause-results : goal.returns-then-self-eq0-clause-results
returns-then-self-eq0-clause-results g c = λ key square h. c.grow.ensures.results key square (rw (sym c.self-then-self-eq0.view_is) h)

pub returns-else-self-eq0-clause-results : goal.returns-else-self-eq0-clause-results
returns-else-self-eq0-clause-results g c = λ key square h. rw (sym c.self.view_is) h

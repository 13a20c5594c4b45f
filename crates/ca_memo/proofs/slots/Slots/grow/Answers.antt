use Rattle.std.proofs.Common.{sym}
use Rattle.ca_memo.proofs.RecentResults.{grown-there}
use Rattle.ca_memo.proofs.slots.Slots.grow.Goals as goal

pub returns-clause-results : goal.returns-clause-results
returns-clause-results g c = λ key square h. rw (sym c.self.view_is) (grown-there _ _ _ c.self.inside.slots.items c.resize.new.self.items (key, square) c.resize.ensures.items h)

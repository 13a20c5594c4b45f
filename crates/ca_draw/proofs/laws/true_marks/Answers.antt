use Rattle.ca_draw.proofs.Marks.{dead_iff_blank, live_mark_there}
use Rattle.ca_draw.proofs.laws.true_marks.Goals as goal

pub returns-clause-dead : goal.returns-clause-dead
returns-clause-dead c = dead_iff_blank

pub returns-clause-live : goal.returns-clause-live
returns-clause-live c = live_mark_there

use Rattle.std.proofs.Common.{sym}
use Rattle.ca_rle.proofs.Preambles.{cr_dropped, last_kept}
use Rattle.ca_rle.proofs.front.lines.without_cr.Goals as goal

pub returns-then-last-ne13 : goal.returns-then-last-ne13
returns-then-last-ne13 c = sym (last_kept _ _ _ c.if-last-ne13.true c.in-Some.ensures.cases.0)

pub returns : goal.returns
returns c = sym (cr_dropped _ _ _ c.if-last-ne13.false c.in-Some.ensures.cases.0)

use Rattle.std.proofs.lemmas.Bool.{both_ways}
use Rattle.ca_rle.proofs.Preambles.{line_leads, xlife_before, xlife_last}
use Rattle.ca_rle.proofs.front.lines.Preamble.after_line.Goals as goal

pub returns-then-self-clause-found : goal.returns-then-self-clause-found
returns-then-self-clause-found c =
    line_leads _ _ _ _ c.requires.line c.requires.comment c.in_ok-start.ensures.found (λ lines said r t. xlife_before lines _ (r.xlife t)) (λ f. absurd (both_ways _ f c.if-self.true))

pub returns-else-self-clause-found : goal.returns-else-self-clause-found
returns-else-self-clause-found c =
    line_leads _ _ _ _ c.requires.line c.requires.comment c.in_ok-start.ensures.found (λ lines said r t. xlife_last lines _ (c.is_xlife_line.ensures.yes t))
    (λ f. (c.if-self.false, c.is_xlife_line.ensures.no f))

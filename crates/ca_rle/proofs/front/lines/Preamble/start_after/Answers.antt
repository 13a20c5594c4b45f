use Rattle.std.proofs.Common.{sym, subst}
use Rattle.ca_rle.specs.inner.FrontParts.{WordsLead}
use Rattle.ca_rle.proofs.StartWords.{leads_none}
use Rattle.ca_rle.proofs.front.lines.Preamble.start_after.Goals as goal

pub returns-in-None-clause-found : goal.returns-in-None-clause-found
returns-in-None-clause-found c = subst (λ ws. WordsLead ws c.args.self.start c.args.self.start) (sym c.in-None.ensures.words) (leads_none c.args.self.start)

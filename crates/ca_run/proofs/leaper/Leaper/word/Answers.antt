use Rattle.std.proofs.Common.{sym, subst}
use Rattle.ca_run.specs.inner.Shown.{ShowsAt}
use Rattle.ca_run.proofs.Lanes.{word_at}
use Rattle.ca_run.proofs.leaper.Leaper.word.Goals as goal

pub returns : goal.returns
returns g c = λ p a b shows. word_at c.self.inside.store c.args.id c.word.result p a b c.word.ensures (subst (λ l. ShowsAt l.nodes c.args.id 3 p a b) (sym c.self.view_is) shows)

use Rattle.std.proofs.Common.{sym, subst}
use Rattle.std.proofs.lemmas.List.Elements.{All-push}
use Rattle.ca_run.specs.inner.InUse.{IsTrueLeap, AreTrueLeaps}
use Rattle.ca_run.proofs.leaper.Leaper.add_leap_in_use.Goals as goal

pub returns-in_err-push : goal.returns-in_err-push
returns-in_err-push g c = subst (λ leaps. AreTrueLeaps (g.A.Automaton.next_of c.args.self.now.rule) c.args.self.now.nodes leaps) (sym c.in_err-push.ensures.items) c.requires

pub returns : goal.returns
returns g c =
    subst (λ leaps. AreTrueLeaps (g.A.Automaton.next_of c.args.self.now.rule) c.args.self.now.nodes leaps) (sym c.in_ok-push.ensures.items)
    (All-push (IsTrueLeap (g.A.Automaton.next_of c.args.self.now.rule) c.args.self.now.nodes) c.args.leaps.now.items c.in-Some.leap c.requires c.in-Some.ensures)

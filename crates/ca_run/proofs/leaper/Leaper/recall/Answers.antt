use Rattle.std.proofs.Common.{arith, suc, sym, subst, IfSome}
use Rattle.std.proofs.lemmas.Bool.Decides.{nat_tests}
use Rattle.ca_quad.specs.Prelude.{IsOf}
use Rattle.ca_run.specs.Prelude.{IsCentre}
use Rattle.ca_run.proofs.LeapResults.{full_leaps_of, singles_of, centres_of}
use Rattle.ca_run.proofs.ShownPlanes.{recalled, kept_recalled, full_leap_recalled, leaper_looked}
use Rattle.ca_run.proofs.leaper.Leaper.recall.Goals as goal

pub invariant_of-self : goal.invariant_of-self
invariant_of-self g c = leaper_looked c.full_leap.ensures.no_more c.full_leap.ensures.bounded c.self.invariant

pub returns-then-j-part_level-clause-centre : goal.returns-then-j-part_level-clause-centre
returns-then-j-part_level-clause-centre g c =
    subst (λ l. IfSome c.full_leap.result (IsCentre (g.A.Automaton.next_of l.rule) l.nodes c.args.id c.args.part_level c.args.j)) c.self.view_is
    (full_leap_recalled (g.A.Automaton.next_of c.self.inside.rule) c.self.inside.store c.self.inside.memo c.args.id c.args.part_level c.args.j c.full_leap.result (grind (arith, nat_tests)) (full_leaps_of (g.A.Automaton.next_of c.self.inside.rule) c.self.inside.store c.self.inside.memo c.self.inside.recent_centres c.self.inside.recent_leaps c.self.invariant.remembers.true_results)
    (subst (λ l. IsOf l.nodes c.args.id (suc (suc c.args.part_level))) (sym c.self.view_is) c.requires) c.full_leap.ensures.found)

pub returns-then-is_cheap-clause-centre : goal.returns-then-is_cheap-clause-centre
returns-then-is_cheap-clause-centre g c =
    subst (λ l. IfSome c.get.result (IsCentre (g.A.Automaton.next_of l.rule) l.nodes c.args.id c.args.part_level c.args.j)) c.self.view_is
    (kept_recalled (g.A.Automaton.next_of c.self.inside.rule) c.self.inside.store c.self.inside.recent_centres.slots c.args.id c.args.part_level c.args.j c.get.result (centres_of (g.A.Automaton.next_of c.self.inside.rule) c.self.inside.store c.self.inside.memo c.self.inside.recent_centres c.self.inside.recent_leaps c.self.invariant.remembers.true_results)
    (subst (λ l. IsOf l.nodes c.args.id (suc (suc c.args.part_level))) (sym c.self.view_is) c.requires) c.get.ensures)

pub returns-clause-centre : goal.returns-clause-centre
returns-clause-centre g c =
    subst (λ l. IfSome c.single.result (IsCentre (g.A.Automaton.next_of l.rule) l.nodes c.args.id c.args.part_level c.args.j)) c.self.view_is
    (recalled (g.A.Automaton.next_of c.self.inside.rule) c.self.inside.store c.self.inside.memo c.args.id c.args.part_level c.args.j c.single.result (singles_of (g.A.Automaton.next_of c.self.inside.rule) c.self.inside.store c.self.inside.memo c.self.inside.recent_centres c.self.inside.recent_leaps c.self.invariant.remembers.true_results)
    (subst (λ l. IsOf l.nodes c.args.id (suc (suc c.args.part_level))) (sym c.self.view_is) c.requires) c.single.ensures)

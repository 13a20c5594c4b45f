use Rattle.std.proofs.Common.{suc, sym, subst}
use Rattle.ca_quad.specs.Prelude.{IsOf}
use Rattle.ca_run.specs.inner.Shown.{FourShow}
use Rattle.ca_run.proofs.ShownPlanes.{leaper_stays, joined_at, joined_of}
use Rattle.ca_run.proofs.leaper.Leaper.join.Goals as goal

pub invariant_of-self : goal.invariant_of-self
invariant_of-self g c = leaper_stays c.self.invariant c.join.ensures.grows

pub returns-clause-shows : goal.returns-clause-shows
returns-clause-shows g c = λ p a b four.
    let there = subst (λ l. FourShow l.nodes (suc c.args.part_level) c.args.nw c.args.ne c.args.sw c.args.se p a b) (sym c.self.view_is) four in
    joined_at c.self.inside.store c.join.new.self c.join.result (suc c.args.part_level) c.args.nw c.args.ne c.args.sw c.args.se p a b there (c.join.ensures.shows (suc c.args.part_level) there.at_nw.is_square)

pub returns-clause-square : goal.returns-clause-square
returns-clause-square g c =
    joined_of c.join.new.self c.join.result (suc c.args.part_level) _ (c.join.ensures.shows (suc c.args.part_level) (subst (λ l. IsOf l.nodes c.args.nw (suc c.args.part_level)) (sym c.self.view_is) c.requires.is_nw))

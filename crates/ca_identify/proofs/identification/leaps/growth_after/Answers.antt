use Rattle.std.proofs.Common.{refl, sym, subst, arith}
use Rattle.ca_quad.specs.Prelude.{cell}
use Rattle.ca_pattern.specs.Prelude.{IsLowTree, HasLive}
use Rattle.ca_identify.specs.inner.Stages.{IsGrowthOf}
use Rattle.ca_identify.proofs.Identities.{found_growth}
use Rattle.ca_identify.proofs.LaterLeapers.{later_low}
use Rattle.ca_identify.proofs.Stages.{start_goes_on}
use Rattle.ca_identify.proofs.identification.leaps.growth_after.Goals as goal

pub later_within-requires : goal.later_within-requires
later_within-requires g c =
    start_goes_on _ c.args.leaper.now.nodes c.args.first.now.tree c.requires.first.quiet c.requires.first.is_first.start c.args.limit (omega (arith, c.requires.first.most))

pub growth_of-requires-clause-low : goal.growth_of-requires-clause-low
growth_of-requires-clause-low g c = subst (λ s. IsLowTree s c.in_ok-last.last) (sym c.store-2.ensures.nodes) (later_low c.requires.first c.in_ok-last.ensures.later (omega arith))

pub growth_of-requires-clause-live : goal.growth_of-requires-clause-live
growth_of-requires-clause-live g c =
    subst (λ s. HasLive (cell s c.in_ok-last.last)) (sym c.store-2.ensures.nodes) (subst (λ s. HasLive (cell s c.in_ok-last.last)) c.store.ensures.nodes (c.if-is_dead.ensures.live refl))

pub returns-clause-growth : goal.returns-clause-growth
returns-clause-growth g c = λ cells shows without.
    found_growth (g.A.Automaton.next_of c.args.leaper.now.rule) c.requires.first.quiet c.args.leaper.now.nodes c.args.first.now c.requires.first.is_first cells shows c.args.limit without c.later_within.new.leaper.nodes
    c.in_ok-last.last c.in_ok-last.ensures.later (subst (λ s. HasLive (cell s c.in_ok-last.last)) c.store.ensures.nodes (c.if-is_dead.ensures.live refl)) c.in_ok-growth.growth
    (subst (λ s. IsGrowthOf s c.in_ok-last.last c.in_ok-growth.growth) c.store-2.ensures.nodes c.in_ok-growth.ensures)

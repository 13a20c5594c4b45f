use Rattle.std.proofs.Common.{◌+◌, sym, subst, ◌∙◌, arith}
use Rattle.ca_plane.specs.Prelude.{Picture, IsAfter}
use Rattle.ca_run.proofs.LeaperGrowth.{goes_on_same, goes_on_again}
use Rattle.ca_pattern.specs.Prelude.{ShowsTree}
use Rattle.ca_pattern.proofs.LeaptTrees.{pattern_stays}
use Rattle.ca_steps.specs.Prelude.{HasStates}
use Rattle.ca_census.specs.Prelude.{FitsFile}
use Rattle.ca_census.proofs.SettledSearches.{pictures_before, first_settled}
use Rattle.ca_census.proofs.settling.first_settling.Goals as goal

pub halves-init : goal.halves-init
halves-init g c = record {
  goes_on = goes_on_same _ c.args.leaper.now c.store.ensures.sound;
  within = c.requires.within;
  fits = c.requires.fits;
  order = omega arith;
  between = λ cells shows. record { settled = c.requires.settled cells shows; before = λ m less. absurd (omega (arith, less)) };
}

pub plane_after-requires-clause-pattern : goal.plane_after-requires-clause-pattern
plane_after-requires-clause-pattern g c =
    pattern_stays c.args.leaper.now.nodes c.halves.leaper.nodes c.store.ensures.sound c.halves.invariant.goes_on.grows c.args.pattern.now c.requires.pattern

pub halves-preserved : goal.halves-preserved
halves-preserved g c =
    let next = g.A.Automaton.next_of in
    let inv = c.halves.invariant in
    let quiet = g.met.A.Automaton.quiet c.args.rule.now c.states-states.ensures.sound in
    let rule = inv.goes_on.rule ∙ sym c.requires.rule in
    let generations = c.args.reach.start + c.middle-middle.result in
    let plane = c.in-Some.plane in
    let stands = pictures_before c.store.ensures.sound inv.goes_on.grows c.requires.pattern (λ cells. IsAfter (next c.args.rule.now) cells generations plane)
    (subst (λ r. (cells : Picture) → ShowsTree c.halves.leaper.nodes c.args.pattern.now cells → IsAfter (next r) cells generations plane) rule (rw c.in-Some.is at c.in_ok-plane.ensures.plane)) in
    let small = rw c.in-Some.is at c.in_ok-plane.ensures.states in
    let fits : FitsFile (g.A.Automaton.state_count c.args.rule.now) plane = record { small = subst (λ n. HasStates n plane) c.states-states.ensures.value small; few = rw c.in-Some.is at c.in_ok-plane.ensures.few } in
    record {
      goes_on = goes_on_again _ c.args.leaper.now c.halves.leaper c.plane_after.new.leaper inv.goes_on c.in_ok-plane.ensures.goes_on;
      within = let before = inv.within in omega (arith, before, c.in-Ok.ensures.within);
      fits = c.in-Ok.ensures.fits (g.A.Automaton.state_count c.args.rule.now) inv.fits fits;
      order = c.in-Ok.ensures.order;
      between = λ cells shows. c.in-Ok.ensures.between (next c.args.rule.now) cells c.args.reach quiet (stands cells shows) (inv.between cells shows);
    }

pub returns-clause-settling : goal.returns-clause-settling
returns-clause-settling g c = λ cells shows.
    let inv = c.halves.invariant in
    first_settled (g.A.Automaton.next_of c.args.rule.now) cells c.args.reach c.halves.between (inv.between cells shows) (omega (arith, c.halves-test.false))

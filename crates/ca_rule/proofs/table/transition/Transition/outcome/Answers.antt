use Rattle.std.proofs.Common.{◌≡◌, ◌∙◌, map, zip, slice_index, true, Some, ◌++◌, ap, sym}
use Rattle.ca_rule.specs.Prelude.{ring, ring_size, every_order, fits, result_state}
use Rattle.ca_rule.specs.inner.TablePlaces.{taken_at, outcome_at}
use Rattle.ca_rule.specs.inner.TableSearch.{placements_of}
use Rattle.ca_rule.specs.inner.TableChoice.{taken_of}
use Rattle.ca_rule.proofs.OrderSearches.{least_outcome-unfit}
use Rattle.ca_rule.proofs.Idle.{stands-first}
use Rattle.ca_rule.proofs.SymmetryPlaces.{outcome-uncentred}
use Rattle.ca_rule.proofs.table.transition.Transition.outcome.Goals as goal

pub returns-else-fits_at : goal.returns-else-fits_at
returns-else-fits_at c =
    let h = c.in-Every.neighbourhood in
    let unfit = least_outcome-unfit c.args.variables.now c.args.nine.now c.args.self.now (taken_of c.of_ring-choice.result) (sym c.fits_at.ensures ∙ c.if-fits_at.false) (every_order (ring_size h) (ring h)) in
    sym (ap (λ o. outcome_at c.args.variables.now c.args.nine.now c.args.self.now (placements_of o)) c.in-Every.is
    ∙ ap (λ l. outcome_at c.args.variables.now c.args.nine.now c.args.self.now (map (λ g. l ++ g) (every_order (ring_size h) (ring h)))) (sym c.of_ring-choice.ensures.taken) ∙ unfit)

pub returns-then-not-admits_centre : goal.returns-then-not-admits_centre
returns-then-not-admits_centre c =
    sym (outcome-uncentred c.args.variables.now c.args.nine.now c.args.self.now (placements_of c.args.orders) c.requires.centred (sym c.admits_centre.ensures ∙ c.if-not-admits_centre.true))

pub returns-then-fits : goal.returns-then-fits
returns-then-fits c =
    let cells = map (slice_index c.args.nine.now) c.as_it_stands-standing.result.now in
    let slots : c.deref.result.now ≡ c.args.self.now.inputs = c.deref.ensures.value ∙ ap (λ l. l.inputs) c.self.view_is in
    let same : c.deref-then-fits.result.now ≡ c.args.self.now.inputs = c.deref-then-fits.ensures.value ∙ ap (λ l. l.inputs) c.self.view_is in
    let fit : fits c.args.variables.now (taken_at c.args.nine.now c.args.self.now c.as_it_stands-standing.result.now) ≡ true
    = ap (λ s. fits c.args.variables.now (zip s cells)) (sym slots) ∙ sym c.fits.ensures ∙ c.if-fits.true in
    let state : c.result_state.result ≡ result_state c.args.self.now.result (taken_at c.args.nine.now c.args.self.now c.as_it_stands-standing.result.now)
    = c.result_state.ensures ∙ ap (λ s. result_state c.self.inside.result (zip s cells)) same ∙ ap (λ r. result_state r (zip c.args.self.now.inputs cells)) (ap (λ l. l.result) c.self.view_is) in
    ap Some state ∙ sym (stands-first c.args.variables.now c.args.nine.now c.args.self.now c.in-Every.neighbourhood c.as_it_stands-standing.result.now c.as_it_stands-standing.ensures fit)
    ∙ ap (λ o. outcome_at c.args.variables.now c.args.nine.now c.args.self.now (placements_of o)) (sym c.in-Every.is)

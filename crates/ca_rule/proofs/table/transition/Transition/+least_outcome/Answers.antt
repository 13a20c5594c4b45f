use Rattle.std.proofs.Common.{◌≡◌, ◌+◌, ◌-◌, ◌<◌, ◌≤◌, suc, length, drop, ap, sym, ◌∙◌, arith}
use Rattle.std.specs.Option.{option_or}
use Rattle.std.proofs.lemmas.Bool.Decides.{nat_tests}
use Rattle.ca_rule.specs.Prelude.{picks, every_order}
use Rattle.ca_rule.specs.inner.TableSearch.{picked_outcome}
use Rattle.ca_rule.specs.inner.TableChoice.{taken_of, free_of}
use Rattle.ca_rule.proofs.OrderSearches.{test-unfit, all-picks, one-pick, no-pick}
use Rattle.ca_rule.proofs.EqualPlaces.{repeated, led_to_none, none_here}
use Rattle.ca_rule.proofs.table.transition.Transition.+least_outcome.Goals as goal

pub returns-in-Some : goal.returns-in-Some
returns-in-Some t c =
    let count : length (free_of c.args.choice) ≡ suc (c.free_count-count.result - 1) = first_of (omega arith, grind (arith, nat_tests)) in
    let here : c.places.at < length (free_of c.args.choice) = first_of (omega arith, grind (arith, nat_tests)) in
    let start = all-picks c.args.variables.now c.args.nine.now c.args.self.now (taken_of c.args.choice) (free_of c.args.choice) (c.free_count-count.result - 1) count in
    let step = one-pick c.args.variables.now c.args.nine.now c.args.self.now (taken_of c.args.choice) (free_of c.args.choice) (c.free_count-count.result - 1) count c.places.at
    (taken_of c.with-next.result) (free_of c.with-next.result) here c.with-next.ensures.taken c.with-next.ensures.free in
    sym (start ∙ c.places.invariant.left ∙ step
    ∙ ap (λ o. option_or o (picked_outcome c.args.variables.now c.args.nine.now c.args.self.now (taken_of c.args.choice) (c.free_count-count.result - 1) (drop (c.places.at + 1) (picks (free_of c.args.choice))))) (sym c.in-Some.ensures))

pub places-preserved : goal.places-preserved
places-preserved t c =
    let count : length (free_of c.args.choice) ≡ suc (c.free_count-count.result - 1) = first_of (omega arith, grind (arith, nat_tests)) in
    let here : c.places.at < length (free_of c.args.choice) = first_of (omega arith, grind (arith, nat_tests)) in
    let none = led_to_none c.args.variables.now c.args.nine.now c.args.self.now (taken_of c.args.choice) (free_of c.args.choice) (c.free_count-count.result - 1) c.places.at
    (taken_of c.with-next.result) (free_of c.with-next.result) count here c.with-next.ensures.taken c.with-next.ensures.free (sym c.in_default.ensures) in
    let more = none_here c.args.variables.now c.args.nine.now c.args.self.now (taken_of c.args.choice) (free_of c.args.choice) (c.free_count-count.result - 1) c.places.at count here
    c.places.invariant.left c.places.invariant.tried none in
    record { left = more.0; tried = more.1 }

pub places-preserved-then-not-fits_at : goal.places-preserved-then-not-fits_at
places-preserved-then-not-fits_at t c =
    let count : length (free_of c.args.choice) ≡ suc (c.free_count-count.result - 1) = first_of (omega arith, grind (arith, nat_tests)) in
    let here : c.places.at < length (free_of c.args.choice) = first_of (omega arith, grind (arith, nat_tests)) in
    let unfit = test-unfit c.args.variables.now c.args.nine.now c.args.self.now (taken_of c.with-next.result) c.if-not-fits_at.ensures
    (every_order (length (free_of c.with-next.result)) (free_of c.with-next.result)) in
    let none = led_to_none c.args.variables.now c.args.nine.now c.args.self.now (taken_of c.args.choice) (free_of c.args.choice) (c.free_count-count.result - 1) c.places.at
    (taken_of c.with-next.result) (free_of c.with-next.result) count here c.with-next.ensures.taken c.with-next.ensures.free unfit in
    let more = none_here c.args.variables.now c.args.nine.now c.args.self.now (taken_of c.args.choice) (free_of c.args.choice) (c.free_count-count.result - 1) c.places.at count here
    c.places.invariant.left c.places.invariant.tried none in
    record { left = more.0; tried = more.1 }

pub places-preserved-then-repeats : goal.places-preserved-then-repeats
places-preserved-then-repeats t c =
    let count : length (free_of c.args.choice) ≡ suc (c.free_count-count.result - 1) = first_of (omega arith, grind (arith, nat_tests)) in
    let here : c.places.at < length (free_of c.args.choice) = first_of (omega arith, grind (arith, nat_tests)) in
    let none = repeated c.args.variables.now c.args.nine.now c.args.self.now (taken_of c.args.choice) (free_of c.args.choice) (c.free_count-count.result - 1) c.places.at here count
    (sym c.repeats.ensures ∙ c.if-repeats.true) c.places.invariant.tried in
    let more = none_here c.args.variables.now c.args.nine.now c.args.self.now (taken_of c.args.choice) (free_of c.args.choice) (c.free_count-count.result - 1) c.places.at count here
    c.places.invariant.left c.places.invariant.tried none in
    record { left = more.0; tried = more.1 }

pub returns : goal.returns
returns t c =
    let count : length (free_of c.args.choice) ≡ suc (c.free_count-count.result - 1) = first_of (omega arith, grind (arith, nat_tests)) in
    let end : length (free_of c.args.choice) ≤ c.places.at = first_of (omega arith, grind (arith, nat_tests)) in
    let start = all-picks c.args.variables.now c.args.nine.now c.args.self.now (taken_of c.args.choice) (free_of c.args.choice) (c.free_count-count.result - 1) count in
    sym (start ∙ c.places.invariant.left
    ∙ no-pick c.args.variables.now c.args.nine.now c.args.self.now (taken_of c.args.choice) (free_of c.args.choice) (c.free_count-count.result - 1) count c.places.at end)

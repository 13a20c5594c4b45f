use Rattle.std.proofs.Common.{◌<◌, slice_index, drop, [], ◌∙◌, arith}
use Rattle.ca_rule.specs.inner.TransitionIndices.{inputs_at}
use Rattle.ca_rule.proofs.IndexedSlots.{told-here, no-zero, first-bit, second-bit}
use Rattle.ca_rule.proofs.Idle.{one-more}
use Rattle.ca_rule.proofs.table.transition_index.TransitionIndex.+filled_slot.Goals as goal

pub returns-in_default-get : goal.returns-in_default-get
returns-in_default-get t c = λ variables ts index k few there zeros. absurd (no-zero k few zeros)

pub returns : goal.returns
returns t c = λ variables ts index k few there zeros.
    let small : c.from.result < 256 = omega arith in
    let here = first-bit (slice_index c.in-Some-get.row.now c.from.result) c.filled_slot.result k zeros in
    let tail_after = second-bit (slice_index c.in-Some-get.row.now c.from.result) c.filled_slot.result k zeros in
    one-more variables c.args.nine.now (drop c.args.slot (inputs_at ts k)) c.in-Some.place.now c.args.places.now c.in-Some.later.now c.in-Some.ensures.cases.0
    (told-here variables ts c.args.self.now c.deref.result.now c.args.slot c.in-Some-get.row.now c.from.result (slice_index c.args.nine.now c.in-Some.place.now) k index
    (c.deref.ensures.value ∙ c.self.view_is) c.in-Some-get.ensures.lookup.3.0 (c.in-Some-get.ensures.lookup.3.1 []) (c.from.ensures ∙ c.cell_at.ensures) small few there here)
    (c.filled_slot.ensures variables ts index k few there tail_after)

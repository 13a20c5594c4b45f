use Rattle.std.proofs.Common.{◌<◌, slice_index, [], ap, ◌∙◌, arith}
use Rattle.std.specs.Int.{bit_at}
use Rattle.ca_rule.specs.inner.TransitionIndices.{inputs_at}
use Rattle.ca_rule.proofs.IndexedSlots.{here, here-or-later, told-here, no-zero}
use Rattle.ca_rule.proofs.table.transition_index.TransitionIndex.+candidates_at.Goals as goal

pub returns-in_default : goal.returns-in_default
returns-in_default t c = λ variables ts index k few there zeros. absurd (no-zero k few zeros)

pub returns-in_default-get : goal.returns-in_default-get
returns-in_default-get t c = λ variables ts index k few there zeros. absurd (no-zero k few zeros)

pub returns-then-bits-eq0 : goal.returns-then-bits-eq0
returns-then-bits-eq0 t c = λ variables ts index k few there zeros.
    let small : c.from.result < 256 = omega arith in
    here variables c.args.nine.now (inputs_at ts k) c.args.slot c.in-Some.place.now c.args.places.now c.in-Some.later.now c.in-Some.ensures.cases.0
    (told-here variables ts c.args.self.now c.deref.result.now c.args.slot c.in-Some-get.row.now c.from.result (slice_index c.args.nine.now c.in-Some.place.now) k index
    (c.deref.ensures.value ∙ c.self.view_is) c.in-Some-get.ensures.lookup.3.0 (c.in-Some-get.ensures.lookup.3.1 []) (c.from.ensures ∙ c.cell_at.ensures) small few there (ap (λ n. bit_at n k) c.if-bits-eq0.true ∙ zeros))

pub returns : goal.returns
returns t c = λ variables ts index k few there zeros.
    let small : c.from.result < 256 = omega arith in
    here-or-later variables c.args.nine.now (inputs_at ts k) c.args.slot c.in-Some.place.now c.args.places.now c.in-Some.later.now
    (slice_index c.in-Some-get.row.now c.from.result) c.candidates_at.result k c.in-Some.ensures.cases.0 zeros
    (λ z. told-here variables ts c.args.self.now c.deref.result.now c.args.slot c.in-Some-get.row.now c.from.result (slice_index c.args.nine.now c.in-Some.place.now) k index
    (c.deref.ensures.value ∙ c.self.view_is) c.in-Some-get.ensures.lookup.3.0 (c.in-Some-get.ensures.lookup.3.1 []) (c.from.ensures ∙ c.cell_at.ensures) small few there z)
    (λ z. c.candidates_at.ensures variables ts index k few there z)

use Rattle.std.proofs.Common.{zip, map, slice_index}
use Rattle.ca_rule.specs.inner.TransitionIndices.{inputs_at}
use Rattle.ca_rule.proofs.IndexedSlots.{unfit, first-bit, second-bit}
use Rattle.ca_rule.proofs.table.transition_index.TransitionIndex.+candidates_in.Goals as goal

pub returns : goal.returns
returns t c = λ variables ts index k few there zeros.
    let here = unfit variables (zip (inputs_at ts k) (map (slice_index c.args.nine.now) c.in-Some.placement.now.now)) (c.candidates_at.ensures variables ts index k few there (first-bit c.candidates_at.result c.candidates_in.result k zeros)) in
    let tail_after = c.candidates_in.ensures variables ts index k few there (second-bit c.candidates_at.result c.candidates_in.result k zeros) in
    rw c.in-Some.ensures.cases.0 (here, tail_after)

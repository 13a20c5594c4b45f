use Rattle.std.proofs.Common.{◌<◌, ◌≤◌, ◌^◌, length, sym, ◌∙◌, arith, w64}
use Rattle.std.specs.Int.{trailing_zeros}
use Rattle.std.proofs.lemmas.Bool.Decides.{nat_tests}
use Rattle.std.proofs.lemmas.Nat.Bits.{bit_at-trailing_zeros}
use Rattle.ca_rule.specs.inner.TableSearch.{placements_of}
use Rattle.ca_rule.proofs.PassedTransitions.{none-left, next-lowest, past-end, decides, cleared-over, cleared-less}
use Rattle.ca_rule.proofs.table.indexed.indexed_outcome.Goals as goal

pub candidates-init : goal.candidates-init
candidates-init c = c.candidates-bits.ensures c.args.variables.now c.args.transitions.now c.requires.index

pub returns-in_default : goal.returns-in_default
returns-in_default c =
    let fits : c.candidates.bits < 2 ^ 64 = omega arith in
    let low = bit_at-trailing_zeros w64 c.candidates.bits (grind (arith, nat_tests)) fits in
    let end : length c.args.transitions.now ≤ trailing_zeros w64 c.candidates.bits = (let past = c.in_default.ensures.lookup.0 in grind (arith, nat_tests)) in
    next-lowest c.args.variables.now c.args.nine.now (placements_of c.args.orders) c.args.transitions.now c.candidates.bits (trailing_zeros w64 c.candidates.bits) low.0 low.2 c.candidates.invariant
    ∙ past-end c.args.variables.now c.args.nine.now (placements_of c.args.orders) c.args.transitions.now (trailing_zeros w64 c.candidates.bits) end low.0

pub returns-in-Some-outcome : goal.returns-in-Some-outcome
returns-in-Some-outcome c =
    let fits : c.candidates.bits < 2 ^ 64 = omega arith in
    let low = bit_at-trailing_zeros w64 c.candidates.bits (grind (arith, nat_tests)) fits in
    next-lowest c.args.variables.now c.args.nine.now (placements_of c.args.orders) c.args.transitions.now c.candidates.bits (trailing_zeros w64 c.candidates.bits) low.0 low.2 c.candidates.invariant
    ∙ decides c.args.variables.now c.args.nine.now (placements_of c.args.orders) c.args.transitions.now (trailing_zeros w64 c.candidates.bits) c.in-Some.transition.now c.in-Some-outcome.state
    c.in-Some.ensures.lookup.3.0 (c.in-Some.ensures.lookup.3.1 c.in-Some.transition.now) (sym c.in-Some-outcome.ensures)

pub candidates-smaller : goal.candidates-smaller
candidates-smaller c =
    let fits : c.candidates.bits < 2 ^ 64 = omega arith in
    let low = bit_at-trailing_zeros w64 c.candidates.bits (grind (arith, nat_tests)) fits in
    cleared-less c.candidates.bits (trailing_zeros w64 c.candidates.bits) low.0 low.1

pub candidates-preserved : goal.candidates-preserved
candidates-preserved c =
    let fits : c.candidates.bits < 2 ^ 64 = omega arith in
    let low = bit_at-trailing_zeros w64 c.candidates.bits (grind (arith, nat_tests)) fits in
    cleared-over c.args.variables.now c.args.nine.now (placements_of c.args.orders) c.args.transitions.now c.candidates.bits (trailing_zeros w64 c.candidates.bits) c.in-Some.transition.now low.0
    c.in-Some.ensures.lookup.3.0 (c.in-Some.ensures.lookup.3.1 c.in-Some.transition.now) (sym c.in_default-outcome.ensures) c.candidates.invariant

pub returns : goal.returns
returns c = none-left c.args.variables.now c.args.nine.now (placements_of c.args.orders) c.args.transitions.now c.candidates.bits c.candidates-test.false c.candidates.invariant

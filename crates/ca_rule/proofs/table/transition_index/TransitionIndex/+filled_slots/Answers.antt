use Rattle.std.proofs.Common.{ap, ◌∙◌, arith}
use Rattle.std.specs.Int.{bit_at}
use Rattle.std.proofs.lemmas.Bool.Decides.{nat_tests}
use Rattle.ca_rule.specs.inner.TransitionIndices.{inputs_at, HasIdle}
use Rattle.ca_rule.proofs.IndexedSlots.{no-zero}
use Rattle.ca_rule.proofs.Idle.{either}
use Rattle.ca_rule.proofs.table.transition_index.TransitionIndex.+filled_slots.Goals as goal

pub returns-then-slot-eq0 : goal.returns-then-slot-eq0
returns-then-slot-eq0 t c = λ variables ts index k few there zeros. absurd (no-zero k few zeros)

pub returns-then-bits-eq0 : goal.returns-then-bits-eq0
returns-then-bits-eq0 t c = λ variables ts index k few there zeros. record {
  slot = c.args.slot;
  low = grind (arith, nat_tests);
  high = omega arith;
  idle = c.filled_slot-bits.ensures variables ts index k few there (ap (λ n. bit_at n k) c.if-bits-eq0.true ∙ zeros);
}

pub returns : goal.returns
returns t c = λ variables ts index k few there zeros.
    either (HasIdle variables c.args.nine.now (inputs_at ts k) c.args.slot c.args.places.now) c.filled_slot-bits.result c.filled_slots.result k zeros
    (λ z. record { slot = c.args.slot; low = grind (arith, nat_tests); high = omega arith; idle = c.filled_slot-bits.ensures variables ts index k few there z })
    (λ z. let lower = c.filled_slots.ensures variables ts index k few there z in record { slot = lower.slot; low = lower.low; high = omega (arith, lower.high); idle = lower.idle })

use Rattle.std.proofs.Common.{◌≡◌, ◌≢◌, ◌<◌, ◌%◌, ◌*◌, ◌^◌, ◌∷◌, false, true, refl, ap, ◌∙◌, arith}
use Rattle.std.specs.Int.{bit_at}
use Rattle.std.specs.List.{list_any}
use Rattle.std.proofs.lemmas.Nat.Bits.{bit_at-lt}
use Rattle.ca_rule.specs.declared.table.slot.Slot.TheVariants.{Variable}
use Rattle.ca_rule.specs.Prelude.{is_variable}
use Rattle.ca_rule.specs.inner.TableDistinct.{are_distinct}
use Rattle.ca_rule.proofs.Distinct.{set-bit, kept-bit, apart-front}
use Rattle.ca_rule.proofs.table.transition.+are_distinct.Goals as goal

pub returns-clause-distinct : goal.returns-clause-distinct
returns-clause-distinct t c = λ found.
    let few : c.in-Variable.number % 64 < 64 = omega arith in
    let slots : c.args.slots.now ≡ Variable c.in-Variable.number ∷ c.in-Some.later.now = c.in-Some.ensures.cases.0 ∙ ap (λ s. s ∷ c.in-Some.later.now) c.in-Variable.is in
    let apart : list_any (is_variable c.in-Variable.number) c.in-Some.later.now ≡ false = c.are_distinct-2.ensures.apart found c.in-Variable.number (set-bit c.args.seen (c.in-Variable.number % 64) few) in
    let others : are_distinct c.in-Some.later.now ≡ true = c.are_distinct-2.ensures.distinct found in
    ap are_distinct slots ∙ rw (apart, others) refl

pub returns-clause-apart : goal.returns-clause-apart
returns-clause-apart t c = λ found v some.
    let slots : c.args.slots.now ≡ Variable c.in-Variable.number ∷ c.in-Some.later.now = c.in-Some.ensures.cases.0 ∙ ap (λ s. s ∷ c.in-Some.later.now) c.in-Variable.is in
    let other : bit_at c.args.seen (c.in-Variable.number % 64) ≢ 1 = c.if-seen-number-eq1.false in
    let small = bit_at-lt c.args.seen (c.in-Variable.number % 64) in
    let none : bit_at c.args.seen (c.in-Variable.number % 64) ≡ 0 = omega arith in
    apart-front v c.in-Variable.number c.args.seen c.args.slots.now c.in-Some.later.now slots none some
    (c.are_distinct-2.ensures.apart found v (kept-bit c.args.seen (1 * 2 ^ (c.in-Variable.number % 64) % 2 ^ 64) (v % 64) some))

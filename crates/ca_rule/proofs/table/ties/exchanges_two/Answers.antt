use Rattle.std.proofs.Common.{◌≡◌, ◌<◌, ◌+◌, ◌-◌, ℕ, Bool, true, false, sym, ap, ◌∙◌, arith}
use Rattle.std.specs.List.{count_by, range_with_len}
use Rattle.std.specs.Prelude.{cond}
use Rattle.ca_rule.specs.Prelude.{is_exchanged}
use Rattle.ca_rule.proofs.ExchangedStates.{count-left}
use Rattle.ca_rule.proofs.table.ties.exchanges_two.Goals as goal
use Rattle.ca_rule.proofs.table.ties.exchanges_two.Goals.{then-is_exchanged, else-is_exchanged}

-- one more state is counted, or none
pub states-preserved : goal.states-preserved
states-preserved c =
    let f : ℕ → Bool = is_exchanged c.args.states c.args.variables.now c.args.slots.now c.args.number in
    let low : c.states.state < c.args.states = omega arith in
    let left = count-left f c.states.state c.args.states low in
    elim c.if-is_exchanged.branch [
      | then-is_exchanged w ↦
          let here : f c.states.state ≡ true = sym c.is_exchanged.ensures ∙ w.if-is_exchanged.true in
          let one = ap (λ b. cond {A = ℕ} b 1 0 + count_by f (range_with_len (c.states.state + 1) (c.args.states - (c.states.state + 1)))) here in
          (omega (arith, c.states.invariant.0, left ∙ one, w.count-is), omega (arith, c.states.invariant.1, w.count-is))
      | else-is_exchanged w ↦
          let here : f c.states.state ≡ false = sym c.is_exchanged.ensures ∙ w.if-is_exchanged.false in
          let none = ap (λ b. cond {A = ℕ} b 1 0 + count_by f (range_with_len (c.states.state + 1) (c.args.states - (c.states.state + 1)))) here in
          (omega (arith, c.states.invariant.0, left ∙ none, w.count-is), omega (arith, c.states.invariant.1, w.count-is))
    ]

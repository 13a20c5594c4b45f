use Rattle.std.proofs.Common.{◌≡◌, ◌<◌, ◌+◌, ◌-◌, ◌==◌, ◌&&◌, ◌||◌, ℕ, Bool, not, false, sym, ap, ◌∙◌, arith}
use Rattle.std.specs.List.{list_any, range_with_len}
use Rattle.ca_rule.specs.Prelude.{admits}
use Rattle.ca_rule.proofs.ExchangedStates.{any-left}
use Rattle.ca_rule.proofs.table.ties.admits_another.Goals as goal

-- the state isn't such a one, so that the answer lies with those after it
pub states-preserved : goal.states-preserved
states-preserved c =
    let f : ℕ → Bool = λ s. not (s == c.args.cell) && admits c.args.variables.now c.args.slot s in
    let low : c.states.state < c.args.states = omega arith in
    let not_here : f c.states.state ≡ false = sym c.is_other.ensures ∙ c.if-is_other.false in
    c.states.invariant ∙ any-left f c.states.state c.args.states low
    ∙ ap (λ b. b || list_any f (range_with_len (c.states.state + 1) (c.args.states - (c.states.state + 1)))) not_here

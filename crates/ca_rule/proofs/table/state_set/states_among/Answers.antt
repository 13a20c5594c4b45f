use Rattle.std.proofs.Common.{◌≡◌, ◌≤◌, ◌+◌, ◌-◌, ◌*◌, ◌&&◌, Bool, ℕ, length, nat_lt, ap, ◌∙◌, arith}
use Rattle.std.specs.Prelude.{filter}
use Rattle.std.specs.List.{list_any, range_with_len}
use Rattle.ca_rule.specs.Prelude.{admits}
use Rattle.ca_rule.specs.inner.TableStates.{is_in}
use Rattle.ca_rule.proofs.AmongStates.{all-below}
use Rattle.ca_rule.proofs.table.state_set.states_among.Goals as goal

pub invariant_of-result : goal.invariant_of-result
invariant_of-result c = c.states.invariant.0

pub returns : goal.returns
returns c =
    let p : ℕ → Bool = λ s. list_any (λ slot. admits c.args.variables.now slot s) c.args.slots.now in
    let low : c.args.count ≤ 256 = c.requires in
    let end : c.states.state ≡ c.args.count = omega arith in
    let long : 64 * length c.states.words ≡ c.args.count + (256 - c.args.count) = rw c.states.invariant.0 (omega arith) in
    ap (λ k. filter (is_in c.states.words) (range_with_len 0 k)) long
    ∙ all-below p (is_in c.states.words) 0 c.args.count (256 - c.args.count)
    (λ t above below. c.states.invariant.1 t (omega arith) ∙ ap (λ k. nat_lt t k && p t) (end ∙ (omega arith)))

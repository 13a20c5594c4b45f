use Rattle.std.proofs.Common.{◌≡◌, ◌+◌, ◌-◌, ◌<◌, ◌++◌, ◌∷◌, [], length, sym, ap, subst, ◌∙◌, arith}
use Rattle.std.proofs.lemmas.Bool.Decides.{nat_tests}
use Rattle.std.proofs.lemmas.List.{length-drop}
use Rattle.ca_rule.specs.inner.TransitionIndices.{IsIndex, AreIndices}
use Rattle.ca_rule.proofs.PassedTransitions.{indices-push, next-64, one-longer}
use Rattle.ca_rule.proofs.table.indexed.indices_of.Goals as goal

pub indices-preserved : goal.indices-preserved
indices-preserved c =
    let items : c.push.new.self.items ≡ c.indices.indices.items ++ c.in_ok-of.field-0 ∷ [] = c.in_ok-push.ensures.items in
    let count : length c.push.new.self.items ≡ length c.indices.indices.items + 1 = ap length items ∙ one-longer c.indices.indices.items c.in_ok-of.field-0 in (
      c.tail_after_64-left.ensures ∙ next-64 c.args.transitions.now c.indices.left.now (length c.indices.indices.items) (length c.push.new.self.items) count c.indices.invariant.0,
      subst (AreIndices c.args.variables.now c.args.transitions.now) (sym items)
          (indices-push c.args.variables.now c.args.transitions.now c.indices.indices.items c.in_ok-of.field-0 c.indices.invariant.1
          (subst (λ l. IsIndex c.args.variables.now l c.in_ok-of.field-0) c.indices.invariant.0 c.in_ok-of.ensures)),
    )

pub indices-smaller : goal.indices-smaller
indices-smaller c =
    let some : 0 < length c.indices.left.now = grind (arith, nat_tests) in
    let short : length c.tail_after_64-left.result.now ≡ length c.indices.left.now - 64 = ap length c.tail_after_64-left.ensures ∙ length-drop 64 c.indices.left.now in
    omega arith

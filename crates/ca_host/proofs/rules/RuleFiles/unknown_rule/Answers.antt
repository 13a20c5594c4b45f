use Rattle.std.proofs.Common.{◌≡◌, true, subst, sym, inr}
use Rattle.ca_rule.specs.Prelude.{IsRuleFault}
use Rattle.ca_rule.specs.declared.fault.RuleFault.TheVariants.{Unknown}
use Rattle.ca_host.proofs.rules.RuleFiles.unknown_rule.Goals as goal

-- the rule text names no rule
pub returns-then-is_unknown_rule : goal.returns-then-is_unknown_rule
returns-then-is_unknown_rule c =
    let holds = rw c.in-Some.is at c.in_ok-text.ensures.text in
    (holds, subst (λ t. IsRuleFault t c.args.self.now.tables.items Unknown) c.deref.ensures.value (rw c.deref-2.ensures.value at (c.is_unknown_rule.ensures.0 c.if-is_unknown_rule.true)))

-- it has no such fault
pub returns : goal.returns
returns c =
    let holds = rw c.in-Some.is at c.in_ok-text.ensures.text in
    inr (
      c.in-Some.text.items,
      holds,
      λ unknown.
          let by_text = subst (λ t. IsRuleFault t c.args.self.now.tables.items Unknown) (sym c.deref.ensures.value) unknown in
          let told : c.is_unknown_rule.result ≡ true = c.is_unknown_rule.ensures.1 (subst (λ ts. IsRuleFault c.deref.result.now ts Unknown) (sym c.deref-2.ensures.value) by_text) in
          cc,
    )

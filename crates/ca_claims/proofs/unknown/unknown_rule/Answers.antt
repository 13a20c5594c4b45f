use Rattle.std.proofs.Common.{subst, sym, ◌∙◌}
use Rattle.std.proofs.lemmas.Bool.{false≢true}
use Rattle.ca_rule.specs.Prelude.{IsRuleFault}
use Rattle.ca_rule.specs.declared.fault.RuleFault.TheVariants.{Unknown}
use Rattle.ca_claims.proofs.UnknownRules.{none_if_known, none_if_unread}
use Rattle.ca_claims.proofs.unknown.unknown_rule.Goals as goal

pub returns-in_default-clause-name : goal.returns-in_default-clause-name
returns-in_default-clause-name c = none_if_unread c.args.bytes.now c.args.tables.now (rw c.in_default.is at c.in_ok-found.ensures.text)

pub returns-then-is_unknown_rule-clause-name : goal.returns-then-is_unknown_rule-clause-name
returns-then-is_unknown_rule-clause-name c =
    let holds = rw c.in-Some.is at c.in_ok-found.ensures.text in
    (holds, subst (λ t. IsRuleFault t c.args.tables.now Unknown) c.deref.ensures.value (c.is_unknown_rule.ensures.0 c.if-is_unknown_rule.true))

pub returns-clause-name : goal.returns-clause-name
returns-clause-name c =
    let holds = rw c.in-Some.is at c.in_ok-found.ensures.text in
    none_if_known c.args.bytes.now c.args.tables.now c.in-Some.text.items holds
    (λ wrong. false≢true (sym c.if-is_unknown_rule.false ∙ c.is_unknown_rule.ensures.1 (subst (λ t. IsRuleFault t c.args.tables.now Unknown) (sym c.deref.ensures.value) wrong)))

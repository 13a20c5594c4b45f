use Rattle.cafile.proofs.RuleLines.{adds_one_ok}
use Rattle.cafile.proofs.named_rules.with_rule_for.Goals as goal

pub returns-clause-claims : goal.returns-clause-claims
returns-clause-claims g c =
    adds_one_ok c.args.folder.now c.as_bytes.result.now c.args.has_root c.args.name.now c.in_ok-path.field-0 c.in-Some.path c.deref.result.now
    c.in_ok-label.label.items c.deref-5.result.now c.args.text.claims c.with_named_rule.result c.in_ok-path.ensures.path c.in-Some.is
    c.as_bytes.ensures.value c.deref.ensures.value c.in_ok-label.ensures c.deref-5.ensures.value c.with_named_rule.ensures.claims

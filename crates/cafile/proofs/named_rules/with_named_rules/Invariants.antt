use Rattle.std.proofs.Common.{◌≡◌}
use Rattle.cafile.specs.NamedRules.{AddsRuleLines}
use Rattle.cafile.proofs.named_rules.with_named_rules.Given as goal

-- rule lines were added, and no file is lost
abbrev pub invariant-loop-index : goal.invariant-loop-index
invariant-loop-index g l = record {
  claims : AddsRuleLines l.folder l.has_root l.initial.text.claims l.text.claims;
  missing : l.text.missing ≡ l.initial.text.missing;
}

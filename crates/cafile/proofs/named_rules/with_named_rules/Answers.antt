use Rattle.std.proofs.Common.{◌∙◌, rules}
use Rattle.cafile.proofs.RuleLines.{adds_none, adds_both}
use Rattle.cafile.proofs.named_rules.with_named_rules.Goals as goal

pub loop-index-init : goal.loop-index-init
loop-index-init g c = record { claims = adds_none _ _ _; missing = search rules }

pub loop-index-preserved : goal.loop-index-preserved
loop-index-preserved g c = record {
  claims = adds_both c.args.folder.now c.args.has_root c.args.text.claims c.loop-index.text.claims c.in_ok-text.text.claims
      c.loop-index.invariant.claims c.in_ok-text.ensures.claims;
  missing = c.in_ok-text.ensures.missing ∙ c.loop-index.invariant.missing;
}

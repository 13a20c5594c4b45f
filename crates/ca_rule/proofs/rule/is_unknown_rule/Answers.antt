use Rattle.std.proofs.lemmas.Bool.{false≢true}
use Rattle.ca_rule.specs.Prelude.{rule_value}
use Rattle.ca_rule.specs.declared.fault.RuleFault.TheVariants.{Unknown}
use Rattle.ca_rule.proofs.Rules.{named-faultless, one-rule-fault}
use Rattle.ca_rule.proofs.rule.is_unknown_rule.Goals as goal

pub returns-in-Ok : goal.returns-in-Ok
returns-in-Ok c = (λ h. absurd (false≢true h), λ wrong. absurd (named-faultless c.args.text.now c.args.tables.now (rule_value c.in-Ok.field-0) Unknown c.in-Ok.ensures.found wrong))

pub returns-in_default : goal.returns-in_default
returns-in_default c = (λ h. absurd (false≢true h), λ wrong. absurd (c.in_default.not-Unknown (one-rule-fault c.args.text.now c.args.tables.now c.in-Err.fault Unknown c.in-Err.ensures.fault wrong)))

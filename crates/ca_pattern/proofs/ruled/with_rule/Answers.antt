use Rattle.std.proofs.Common.{refl, subst}
use Rattle.ca_rule.specs.Prelude.{IsRuleFault}
use Rattle.ca_pattern.proofs.ruled.with_rule.Goals as goal

pub returns-in-Err : goal.returns-in-Err
returns-in-Err c = (refl, subst (λ t. IsRuleFault t c.args.tables.now c.in-Err.fault) c.deref.ensures.value c.in-Err.ensures.fault)

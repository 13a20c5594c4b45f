use Rattle.std.proofs.Common.{refl}
use Rattle.ca_rule.proofs.Meaning.{names-faultless}
use Rattle.ca_import.proofs.life105.rule_line.Goals as goal

pub returns-in-Err : goal.returns-in-Err
returns-in-Err c = (refl, λ rule names. names-faultless c.args.text.now rule c.in-Err.field-0 names c.in-Err.ensures.fault)

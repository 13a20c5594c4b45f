use Rattle.std.proofs.Common.{◌∷◌, refl, sym, ◌∙◌}
use Rattle.ca_rule.specs.inner.TableReading.{said_text, left_of, said_line}
use Rattle.ca_rule.proofs.TableHead.{no-rule-line}
use Rattle.ca_rule.proofs.table.head.name_of.Goals as goal

pub returns-in_default-rule_name-clause-fault : goal.returns-in_default-rule_name-clause-fault
returns-in_default-rule_name-clause-fault c =
    no-rule-line (said_text c.args.lines.now) (left_of c.args.lines.now) (said_line c.in-Some.line ∷ left_of c.in-Some.later) _ c.requires c.in-Some.ensures.lines (c.in_default-rule_name.ensures.name c.in-Some.line.number) refl

pub returns-clause-named : goal.returns-clause-named
returns-clause-named c = record { rule_line = said_line c.in-Some.line; named = c.in-Some-rule_name.ensures.name c.in-Some.line.number; whole = sym c.requires ∙ c.in-Some.ensures.lines }

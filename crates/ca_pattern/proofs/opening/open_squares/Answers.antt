use Rattle.std.proofs.Common.{sym, ap, subst}
use Rattle.ca_rule.specs.Prelude.{NamesRule, IsRuleFault}
use Rattle.ca_pattern.specs.Prelude.{HoldsRuleText, IsReadFrom, rule_of}
use Rattle.ca_pattern.proofs.OpenedFiles.{squares_opened}
use Rattle.ca_pattern.proofs.opening.open_squares.Goals as goal

pub returns-in-Err-clause-fault : goal.returns-in-Err-clause-fault
returns-in-Err-clause-fault c = c.of_unread.ensures c.args.bytes.now c.args.tables.now c.in-Err.ensures.read

pub returns-in-Err-with_rule-clause-fault : goal.returns-in-Err-with_rule-clause-fault
returns-in-Err-with_rule-clause-fault c =
    let unnamed = c.in-Err-with_rule.unnamed in
    let wrong = c.in-Err-with_rule.ensures in
    let read = c.in-Ok.ensures.read in
    let spelled = sym (ap (λ v. v.items) wrong.0) in
    (subst (λ t. HoldsRuleText t c.args.bytes.now) spelled (read.cells, c.in-Ok.loaded.generation, read.loaded.holds), subst (λ t. IsRuleFault t c.args.tables.now unnamed.fault) spelled wrong.1)

pub returns-clause-opened : goal.returns-clause-opened
returns-clause-opened c =
    let nodes = c.read_with_line.new.store in
    let bytes = c.args.bytes.now in
    let tables = c.args.tables.now in
    let ruled = c.in-Ok-with_rule.ruled in
    let named = c.in-Ok-with_rule.ensures in
    squares_opened nodes bytes tables ruled (subst (IsReadFrom nodes bytes) (sym named.0) c.in-Ok.ensures.read)
    (subst (λ p. NamesRule p.rule_text.items tables (rule_of ruled)) (sym named.0) named.1) (c.in-Ok-false.ensures.small c.in-Ok-false.field-0-test)

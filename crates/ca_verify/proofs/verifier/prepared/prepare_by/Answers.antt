use Rattle.std.proofs.Common.{Some, sym, ap, subst, ◌∙◌}
use Rattle.ca_rule.specs.Prelude.{rule_value}
use Rattle.ca_verify.specs.declared.verifier.prepared.PreparedClaim.{PreparedClaim}
use Rattle.ca_verify.specs.inner.PreparedClaim.{IsPrepared}
use Rattle.ca_verify.specs.inner.Refusals.{IsRefusal}
use Rattle.ca_verify.proofs.Causes.{read_at, ruled_each, are_trees, are_patterns, both_are_patterns, unread_for, unnamed, disagreed, crowded, no_memory, passed_on, all_prepared, all_fit}
use Rattle.ca_verify.proofs.verifier.prepared.prepare_by.Goals as goal

pub returns-in-Err-clause-prepared : goal.returns-in-Err-clause-prepared
returns-in-Err-clause-prepared c = λ files paths rules each there are.
    let unread = c.in-Err.unread in
    subst (IsRefusal files paths rules c.args.asks each) (sym c.reading_refusal.ensures)
    (unread_for files paths rules c.args.asks c.args.tables.now are each c.args.there.now there unread.part unread.why.fault unread.why.line c.in-Err.ensures.unread)

pub returns-in-Err-with_rules-clause-prepared : goal.returns-in-Err-with_rules-clause-prepared
returns-in-Err-with_rules-clause-prepared c = λ files paths rules each there are.
    let nodes = c.read_each.new.store in
    let patterns = c.in-Ok.patterns in
    let unnamed_one = c.in-Err-with_rules.unnamed in
    let read = read_at nodes files each c.args.there.now patterns there c.in-Ok.ensures.read in
    subst (IsRefusal files paths rules c.args.asks each) (sym c.naming_refusal.ensures)
    (unnamed files paths rules c.args.asks c.args.tables.now are nodes each patterns unnamed_one.part unnamed_one.why read c.in-Err-with_rules.ensures.unnamed)

pub agreed_rule-requires : goal.agreed_rule-requires
agreed_rule-requires c =
    are_trees c.read_each.new.store c.args.there.now c.args.tables.now c.in-Ok.patterns c.in-Ok-with_rules.patterns c.in-Ok.ensures.read c.in-Ok-with_rules.ensures.named

pub returns-in-Err-agreed_rule-clause-prepared : goal.returns-in-Err-agreed_rule-clause-prepared
returns-in-Err-agreed_rule-clause-prepared c = λ files paths rules each there are.
    let tables = c.args.tables.now in
    let nodes = c.read_each.new.store in
    let patterns = c.in-Ok.patterns in
    let read = read_at nodes files each c.args.there.now patterns there c.in-Ok.ensures.read in
    let ruled = ruled_each nodes files each tables patterns c.in-Ok-with_rules.patterns read c.in-Ok-with_rules.ensures.named in
    subst (IsRefusal files paths rules c.args.asks each) (sym c.disagreement_refusal.ensures)
    (disagreed files paths rules c.args.asks tables are nodes each c.in-Ok-with_rules.patterns ruled c.in-Err-agreed_rule.disagreement c.in-Err-agreed_rule.ensures.disagreement)

pub check_count-requires-clause-pattern : goal.check_count-requires-clause-pattern
check_count-requires-clause-pattern c =
    let trees = are_patterns c.read_each.new.store c.args.there.now c.args.tables.now c.in-Ok.patterns c.in-Ok-with_rules.patterns c.in-Ok.ensures.read c.in-Ok-with_rules.ensures.named in
    (both_are_patterns c.read_each.new.store c.in-Ok-with_rules.patterns c.subject_of-subject.result trees c.subject_of-subject.ensures).0

pub check_count-requires-clause-other : goal.check_count-requires-clause-other
check_count-requires-clause-other c =
    let trees = are_patterns c.read_each.new.store c.args.there.now c.args.tables.now c.in-Ok.patterns c.in-Ok-with_rules.patterns c.in-Ok.ensures.read c.in-Ok-with_rules.ensures.named in
    (both_are_patterns c.read_each.new.store c.in-Ok-with_rules.patterns c.subject_of-subject.result trees c.subject_of-subject.ensures).1

pub returns-in_err-check_count-clause-prepared : goal.returns-in_err-check_count-clause-prepared
returns-in_err-check_count-clause-prepared c = λ files paths rules each there are.
    let tables = c.args.tables.now in
    let nodes = c.read_each.new.store in
    let patterns = c.in-Ok.patterns in
    let read = read_at nodes files each c.args.there.now patterns there c.in-Ok.ensures.read in
    let ruled = ruled_each nodes files each tables patterns c.in-Ok-with_rules.patterns read c.in-Ok-with_rules.ensures.named in
    let refusal = c.in_err-check_count.field-0.0 in
    passed_on (IsPrepared files rules c.args.asks each) (IsRefusal files paths rules c.args.asks each) c.from_residual.result refusal c.from_residual.ensures.1
    (crowded files paths rules c.args.asks tables are nodes each c.in-Ok-with_rules.patterns ruled (rule_value c.in-Ok-agreed_rule.rule) c.in-Ok-agreed_rule.ensures.small c.in-Ok-agreed_rule.ensures.rule
    c.args.are_one (λ one. there.1 ∙ ap (λ b. Some b.now) (c.requires.one one) ∙ sym there.0) c.subject_of-subject.result refusal c.subject_of-subject.ensures c.in_err-check_count.ensures.many)

pub returns-in_default-clause-prepared : goal.returns-in_default-clause-prepared
returns-in_default-clause-prepared c = λ files paths rules each there are.
    let tables = c.args.tables.now in
    let nodes = c.read_each.new.store in
    let patterns = c.in-Ok.patterns in
    let read = read_at nodes files each c.args.there.now patterns there c.in-Ok.ensures.read in
    let ruled = ruled_each nodes files each tables patterns c.in-Ok-with_rules.patterns read c.in-Ok-with_rules.ensures.named in
    no_memory files paths rules c.args.asks tables are nodes each c.in-Ok-with_rules.patterns ruled

pub returns-clause-prepared : goal.returns-clause-prepared
returns-clause-prepared c = λ files paths rules each there are.
    let tables = c.args.tables.now in
    let nodes = c.read_each.new.store in
    let patterns = c.in-Ok.patterns in
    let read = read_at nodes files each c.args.there.now patterns there c.in-Ok.ensures.read in
    let ruled = ruled_each nodes files each tables patterns c.in-Ok-with_rules.patterns read c.in-Ok-with_rules.ensures.named in
    all_prepared files paths rules c.args.asks tables are nodes each c.in-Ok-with_rules.patterns ruled (rule_value c.in-Ok-agreed_rule.rule) c.in-Ok-agreed_rule.ensures.small c.in-Ok-agreed_rule.ensures.rule
    _ (sym c.in-Ok-leaper_of.ensures.store) (sym (ap rule_value c.in-Ok-leaper_of.ensures.rule)) c.subject_of-subject.ensures c.in_ok-check_count.ensures.few

pub returns-clause-fit : goal.returns-clause-fit
returns-clause-fit c =
    let nodes = c.read_each.new.store in
    let trees = are_patterns nodes c.args.there.now c.args.tables.now c.in-Ok.patterns c.in-Ok-with_rules.patterns c.in-Ok.ensures.read c.in-Ok-with_rules.ensures.named in
    let prepared : PreparedClaim = record { leaper = c.in-Ok-leaper_of.leaper; subject = c.subject_of-subject.result } in
    all_fit nodes c.in-Ok-with_rules.patterns c.args.limits prepared (sym c.in-Ok-leaper_of.ensures.store) c.in-Ok.ensures.sound trees c.subject_of-subject.ensures c.in-Ok-leaper_of.ensures.used c.in-Ok-leaper_of.ensures.limits

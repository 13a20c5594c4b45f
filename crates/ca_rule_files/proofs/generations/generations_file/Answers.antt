use Rattle.ca_rule.specs.Prelude.{generations_next}
use Rattle.ca_rule_files.proofs.WrittenFiles.{writes, parts-put}
use Rattle.ca_rule_files.proofs.generations.generations_file.Goals as goal

pub returns-clause-bytes : goal.returns-clause-bytes
returns-clause-bytes c =
    let rule = c.args.rule.now in
    parts-put c.args.name.now rule.states (generations_next rule.survival rule.birth rule.states) _ _ _ _ _ c.new-out.ensures.items
    c.in_ok-push_head.ensures c.in_ok-push_variables.ensures c.in_ok-push_transitions.ensures c.in_ok-push_dying_transitions.ensures

pub returns-clause-written : goal.returns-clause-written
returns-clause-written c =
    let rule = c.args.rule.now in
    writes rule.survival rule.birth rule.states rule.low rule.high rule.stays_empty c.args.name.now c.push_dying_transitions.new.out.items c.requires
    (parts-put c.args.name.now rule.states (generations_next rule.survival rule.birth rule.states) _ _ _ _ _ c.new-out.ensures.items
    c.in_ok-push_head.ensures c.in_ok-push_variables.ensures c.in_ok-push_transitions.ensures c.in_ok-push_dying_transitions.ensures)

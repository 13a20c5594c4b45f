use Rattle.std.proofs.Common.{◌<◌, sym, subst, ◌∙◌, arith}
use Rattle.ca_rule.specs.Prelude.{rule_value, states_of, NamesRule, IsRuleFault}
use Rattle.ca_rle.specs.Prelude.{picture_of_items}
use Rattle.ca_pattern.specs.Prelude.{HoldsPattern}
use Rattle.ca_pattern.proofs.OpenedFiles.{text_opened}
use Rattle.ca_pattern.proofs.RleFiles.{text_holds, text_large}
use Rattle.ca_pattern.proofs.opening.open_text.Goals as goal

pub returns-clause-opened : goal.returns-clause-opened
returns-clause-opened c =
    let text = c.in-Ok.text in
    let found = c.in-Ok.ensures.found in
    let rule = c.in-Ok-resolve.rule in
    let names = subst (λ t. NamesRule t c.args.tables.now (rule_value rule)) (c.deref.ensures.value ∙ c.in-Ok-rule_text.ensures ∙ found.rule_text) c.in-Ok-resolve.ensures.found in
    let low : text.greatest < states_of (rule_value rule) = omega (arith, c.if-from-states.false, c.from.ensures, c.states.ensures.value) in
    text_opened c.args.bytes.now text found c.requires c.args.tables.now rule names low

pub returns-in-Err-clause-fault : goal.returns-in-Err-clause-fault
returns-in-Err-clause-fault c =
    c.of_unread.ensures c.args.bytes.now c.args.tables.now
    (c.bad_rle.ensures c.args.bytes.now c.requires c.in-Err.ensures.fault (λ z. absurd (c.in-Err.ensures.no_memory z)))

pub returns-in-Err-resolve-clause-fault : goal.returns-in-Err-resolve-clause-fault
returns-in-Err-resolve-clause-fault c =
    let text = c.in-Ok.text in
    let found = c.in-Ok.ensures.found in
    let bytes = c.args.bytes.now in
    let p = picture_of_items found.file.corner found.file.items in
    let spelled = c.in-Ok-rule_text.ensures ∙ found.rule_text in
    let holds = subst (λ t. HoldsPattern bytes p t text.generation) (sym spelled) (text_holds bytes text found c.requires) in
    ((p, text.generation, holds), subst (λ t. IsRuleFault t c.args.tables.now c.in-Err-resolve.fault) c.deref.ensures.value c.in-Err-resolve.ensures.fault)

pub returns-then-from-states-clause-fault : goal.returns-then-from-states-clause-fault
returns-then-from-states-clause-fault c =
    let text = c.in-Ok.text in
    let found = c.in-Ok.ensures.found in
    let bytes = c.args.bytes.now in
    let rule = rule_value c.in-Ok-resolve.rule in
    let names = subst (λ t. NamesRule t c.args.tables.now rule) (c.deref.ensures.value ∙ c.in-Ok-rule_text.ensures ∙ found.rule_text) c.in-Ok-resolve.ensures.found in
    let states = c.states.ensures.value in (
      picture_of_items found.file.corner found.file.items,
      rule,
      text.generation,
      record { rule_text = found.file.rule_text; holds = text_holds bytes text found c.requires; names = names },
      text_large bytes text found rule (omega (arith, states, c.states.ensures.low)) (omega (arith, c.if-from-states.true, c.from.ensures, states)),
    )

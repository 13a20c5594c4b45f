use Rattle.std.proofs.Common.{sym, subst, ◌∙◌}
use Rattle.ca_rle.specs.Prelude.{picture_of_items}
use Rattle.ca_pattern.specs.declared.pattern_fault.PatternFault.TheVariants as pattern_fault
use Rattle.ca_pattern.specs.Prelude.{HoldsPattern}
use Rattle.ca_pattern.proofs.RleFiles.{text_holds}
use Rattle.ca_pattern.proofs.read.rule_text_of.Goals as goal

pub returns-in-Ok-clause-text : goal.returns-in-Ok-clause-text
returns-in-Ok-clause-text c =
    let bytes = c.args.bytes.now in
    let text = c.in-Ok.text in
    let is = c.in-Ok.ensures.found in
    let cells = picture_of_items is.file.corner is.file.items in
    let named = c.in_ok-rule_text-in-Ok.ensures ∙ is.rule_text in
    (cells, text.generation, subst (λ t. HoldsPattern bytes cells t text.generation) (sym named) (text_holds bytes text is (sym c.format_of.ensures ∙ c.in-Rle.is)))

pub returns-in-Rle-clause-text : goal.returns-in-Rle-clause-text
returns-in-Rle-clause-text c =
    let found = c.in-Err.field-0 in
    (pattern_fault.Rle found.fault, (sym c.format_of.ensures ∙ c.in-Rle.is, c.in-Err.ensures.no_memory, c.in-Err.ensures.fault.0))

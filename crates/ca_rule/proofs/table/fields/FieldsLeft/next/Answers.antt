use Rattle.std.proofs.Common.{[], ◌∷◌, sym, ap, ◌∙◌}
use Rattle.ca_plane.specs.Prelude.{trimmed}
use Rattle.ca_rule.specs.inner.TableFields.{fields_left}
use Rattle.ca_rule.proofs.Fields.{last-field, length_zero}
use Rattle.ca_rule.proofs.table.fields.FieldsLeft.next.Goals as goal

pub returns-in-None : goal.returns-in-None
returns-in-None c =
    ap fields_left c.in-Between.is ∙ last-field c.in-Between.bytes.now (sym c.split_at_first.ensures.rest ∙ length_zero c.split_at_first.result.1.now c.in-None.ensures.cases)
    ∙ ap (λ f. f ∷ []) (sym (c.trim_blanks-in-None.ensures ∙ ap trimmed c.split_at_first.ensures.front))

use Rattle.std.proofs.Common.{[], ◌∷◌, ◌++◌, ap, ap₂, ◌∙◌}
use Rattle.std.specs.Prelude.{decimal}
use Rattle.ca_apgcode.proofs.object.code_without.Goals as goal

pub returns : goal.returns
returns c =
    c.in_ok-push_number.ensures.whole ∙ ap (λ l. l ++ decimal c.args.number) (c.in_ok-push_text.ensures.whole ∙ ap₂ (λ l k. l ++ k ∷ []) c.in_ok-code.ensures.items c.letter.ensures)

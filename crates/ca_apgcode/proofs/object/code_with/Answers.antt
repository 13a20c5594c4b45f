use Rattle.std.proofs.Common.{[], ◌∷◌, ◌++◌, ap, ◌∙◌}
use Rattle.std.specs.Prelude.{decimal, codes}
use Rattle.ca_apgcode.proofs.object.code_with.Goals as goal

pub returns : goal.returns
returns c =
    c.in_ok-push_text-2.ensures.whole
    ∙ ap (λ l. l ++ c.args.text.now) (c.in_ok-push_text.ensures.whole ∙ ap (λ l. l ++ codes "_") (c.in_ok-push_number.ensures.whole ∙ ap (λ l. l ++ decimal c.args.number) (c.in_ok-code.ensures.items ∙ ap (λ k. 120 ∷ k ∷ []) c.letter.ensures)))

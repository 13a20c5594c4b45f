use Rattle.std.proofs.Common.{[], ◌∷◌, sym, ap, ◌∙◌}
use Rattle.ca_rle.proofs.unit.next_tag.Goals as goal

pub returns-in-Some-one_byte_tag : goal.returns-in-Some-one_byte_tag
returns-in-Some-one_byte_tag c = (c.in-Some.first.now ∷ [], sym c.in-Some-one_byte_tag.ensures, c.in-Some.ensures.cases.0)

pub returns : goal.returns
returns c =
    let tag = c.in_ok-tag.ensures in
    (c.in-Some.first.now ∷ tag.0 ∷ [], tag.1, c.in-Some.ensures.cases.0 ∙ ap (λ l. c.in-Some.first.now ∷ l) tag.2)

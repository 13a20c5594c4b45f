use Rattle.std.proofs.Common.{◌∷◌, sym, ap, ◌∙◌}
use Rattle.std.proofs.lemmas.Bool.{both_ways}
use Rattle.ca_plane.specs.Prelude.{rest, is_blank}
use Rattle.ca_rle.proofs.Preambles.{xlife_after, xlife_from, same_blank, no_first}
use Rattle.ca_rle.proofs.front.lines.is_xlife_line.Goals as goal

pub returns-in_default-clause-no : goal.returns-in_default-clause-no
returns-in_default-clause-no c = λ denied x.
    let after = xlife_after c.args.line.now x in
    c.in_default.ensures (after.0 ∷ after.1) (c.split_blanks.ensures.rest ∙ ap (rest is_blank) c.without_cr.ensures ∙ after.3)

pub returns-in-Some-first-clause-yes : goal.returns-in-Some-first-clause-yes
returns-in-Some-first-clause-yes c = λ said.
    xlife_from c.args.line.now c.in-Some.rest.now c.in-Some-first.byte.now
    (sym (c.split_blanks.ensures.rest ∙ ap (rest is_blank) c.without_cr.ensures) ∙ c.in-Some.ensures) c.in-Some-first.ensures.value (sym c.is_blank.ensures ∙ said)

pub returns-in-Some-first-clause-no : goal.returns-in-Some-first-clause-no
returns-in-Some-first-clause-no c = λ denied x.
    let after = xlife_after c.args.line.now x in
    let same = sym c.in-Some.ensures ∙ c.split_blanks.ensures.rest ∙ ap (rest is_blank) c.without_cr.ensures ∙ after.3 in
    both_ways _ (sym c.is_blank.ensures ∙ denied) (same_blank c.in-Some.rest.now c.in-Some-first.byte.now after.0 after.1 c.in-Some-first.ensures.value same after.2)

pub returns-in-None-clause-no : goal.returns-in-None-clause-no
returns-in-None-clause-no c = λ denied x.
    let after = xlife_after c.args.line.now x in
    let same = sym c.in-Some.ensures ∙ c.split_blanks.ensures.rest ∙ ap (rest is_blank) c.without_cr.ensures ∙ after.3 in
    no_first c.in-Some.rest.now after.0 after.1 c.in-None.ensures.value same

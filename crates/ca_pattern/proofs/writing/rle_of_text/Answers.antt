use Rattle.std.proofs.Common.{◌<◌, ◌≤◌, ◌^◌, length, sym, subst, ◌∙◌}
use Rattle.ca_plane.specs.Prelude.{cell}
use Rattle.ca_rle.specs.Prelude.{picture_of_items}
use Rattle.ca_rule.specs.Prelude.{rule_value}
use Rattle.ca_pattern.proofs.OpenedCells.{greatest_small}
use Rattle.ca_pattern.specs.declared.format.Format.TheVariants.{Rle}
use Rattle.ca_pattern.proofs.WrittenMeanings.{written_rle, printed_text}
use Rattle.ca_pattern.proofs.writing.rle_of_text.Goals as goal

pub rewrite_rle-requires-clause-text : goal.rewrite_rle-requires-clause-text
rewrite_rle-requires-clause-text c = let (bytes, is, shows) = c.requires.1 in (bytes, is)

pub rewrite_rle-requires-clause-low_states : goal.rewrite_rle-requires-clause-low_states
rewrite_rle-requires-clause-low_states c =
    let (bytes, is, shows) = c.requires.1 in
    let rule = rule_value c.args.rule.now in
    let some = subst (λ n. 2 ≤ n) c.states.ensures.value c.states.ensures.low in
    subst (λ n. c.args.text.greatest < n) (sym c.states.ensures.value) (greatest_small bytes c.args.text is c.requires.0 shows rule some c.requires.2)

pub returns-in-Ok-rewrite_rle-clause-written : goal.returns-in-Ok-rewrite_rle-clause-written
returns-in-Ok-rewrite_rle-clause-written c = λ bytes is.
    let given = c.args.text in
    let items = is.file.items in
    let p = picture_of_items given.corner items in
    let text = c.in-Ok-rewrite_rle.text.items in
    let short : length p ≤ 2 ^ 24 = subst (λ at. length (picture_of_items at items) ≤ 2 ^ 24) (sym is.corner) is.within.1 in
    printed_text Rle (cell p) (rule_value c.args.rule.now) c.deref.result.now given.generation c.states.result (c.deref.ensures.value ∙ c.in-Ok.ensures.printed) c.states.ensures.value text
    (written_rle p c.deref.result.now given.generation c.states.result text short (c.in-Ok-rewrite_rle.ensures items is.items))

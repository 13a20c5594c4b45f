use Rattle.std.proofs.Common.{sym, ap, ◌∙◌}
use Rattle.std.specs.List.{list_any}
use Rattle.std.specs.Str.{bytes_eq}
use Rattle.ca_text.proofs.PathLists.{any_items}
use Rattle.ca_text.proofs.word_set.WordSet.contains.Goals as goal

pub returns : goal.returns
returns c =
    c.is_some.ensures ∙ c.get_index_of.ensures.found ∙ sym (any_items (λ v. v.items) c.args.word.now c.self.inside.set.keys)
    ∙ ap (list_any (bytes_eq c.args.word.now)) c.self.view_is

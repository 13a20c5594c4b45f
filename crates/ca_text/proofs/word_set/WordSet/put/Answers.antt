use Rattle.std.proofs.Common.{ℕ, List, map, sym, ap, ◌∙◌}
use Rattle.std.specs.Str.{bytes_eq}
use Rattle.ca_text.specs.Prelude.{with_word}
use Rattle.ca_text.proofs.PathLists.{with_word_there, items_insert_key, item_at}
use Rattle.ca_text.proofs.word_set.WordSet.put.Goals as goal

pub returns-in-Some-clause-words : goal.returns-in-Some-clause-words
returns-in-Some-clause-words c = sym (with_word_there c.args.self.now c.args.word.now c.in-Some.index c.in-Some.ensures)

pub returns-clause-words : goal.returns-clause-words
returns-clause-words c =
    let word : List ℕ = c.args.word.now in
    ap (map (λ v. v.items)) c.in_ok-index.ensures.keys ∙ items_insert_key (λ v. v.items) word (λ v w. bytes_eq v.items w.items) c.self.inside.set.keys c.in_ok-word.word c.in_ok-word.ensures.items (λ j. ap (λ p. bytes_eq p j.items) c.in_ok-word.ensures.items) ∙ ap (λ l. with_word l word) c.self.view_is

pub returns-clause-index : goal.returns-clause-index
returns-clause-index c =
    let s = c.in_ok-index.ensures.stored in
    item_at (λ v. v.items) c.args.word.now c.insert_full.new.self.keys c.in_ok-index.index s.0 c.in_ok-word.word s.1 s.2 c.in_ok-word.ensures.items

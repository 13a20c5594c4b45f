use Rattle.std.proofs.Common.{◌≡◌, ◌≢◌, ℕ, Some, slice_get, MatchOption, subst}
use Rattle.ca_text.proofs.PathLists.{found_at}
use Rattle.ca_text.proofs.word_set.WordSet.index_of.Goals as goal

pub returns : goal.returns
returns c = subst (λ l. MatchOption c.get_index_of.result ((i : ℕ) → slice_get l i ≢ Some c.args.word.now) (λ i. slice_get l i ≡ Some c.args.word.now)) c.self.view_is (found_at (λ v. v.items) c.args.word.now c.self.inside.set.keys c.get_index_of.result c.get_index_of.ensures.index c.get_index_of.ensures.found)

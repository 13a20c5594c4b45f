use Rattle.std.proofs.Common.{subst}
use Rattle.std.specs.List.{IsDistinct}
use Rattle.std.specs.Str.{bytes_eq}
use Rattle.ca_text.proofs.DistinctItems.{distinct_items}
use Rattle.ca_text.proofs.word_set.WordSet.len.Goals as goal

pub returns-clause-distinct : goal.returns-clause-distinct
returns-clause-distinct c = subst (IsDistinct bytes_eq) c.self.view_is (distinct_items (λ v. v.items) c.self.inside.set.keys c.len.ensures.unique)

-- Leapers that go on: one call after another, or none.
use Rattle.std.proofs.Common.{refl, ◌∙◌}
use Rattle.ca_quad.specs.Prelude.{IsSoundStore}
use Rattle.ca_quad.proofs.Growth.{grows_on, grows_same}
use Rattle.ca_budget.proofs.Spent.{spends_again, spends_same}
use Rattle.ca_run.specs.Prelude.{LeaperView, LeaperGrows}

-- one call after another
pub goes_on_again : (Rule : Type 0) (old mid new : LeaperView Rule) → LeaperGrows Rule old mid → LeaperGrows Rule mid new → LeaperGrows Rule old new
goes_on_again Rule old mid new g h = record {
  rule = h.rule ∙ g.rule;
  grows = grows_on old.nodes mid.nodes new.nodes g.grows h.grows;
  memo = h.memo ∙ g.memo;
  spends = spends_again g.spends h.spends;
}

-- a leaper that does nothing goes on
pub goes_on_same : (Rule : Type 0) (l : LeaperView Rule) → IsSoundStore l.nodes → LeaperGrows Rule l l
goes_on_same Rule l sound = record { rule = refl; grows = grows_same l.nodes sound; memo = refl; spends = spends_same l.spent }

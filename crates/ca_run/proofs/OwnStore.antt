-- Runs in a store of their own.
use Rattle.std.proofs.Common.{◌≡◌, ℕ, ◌+◌, ◌-◌, ◌*◌, ◌<◌, ◌≤◌, inl, inr, List, length, take, sym, ap, subst, ◌∙◌, length-take, arith}
use Rattle.ca_quad.specs.declared.node.Node.{Node}
use Rattle.ca_quad.specs.Prelude.{IsSoundStore, Grows}
use Rattle.ca_quad.proofs.Firsts.{firsts_sound}
use Rattle.ca_quad.proofs.Growth.{grows_same}
use Rattle.ca_run.specs.Prelude.{LeaperView, LeaperGrows}
use Rattle.ca_run.specs.declared.leaper.dense.ReachedTree.{ReachedTree}
use Rattle.ca_budget.specs.declared.pace.Pace.{Pace}
use Rattle.ca_run.specs.inner.OwnStore.{KeepsOn, IsNearer}
use Rattle.ca_budget.specs.Prelude.{tries, most_tries}
use Rattle.ca_budget.proofs.Spent.{spends_again}

module _ {Rule : Type 0} where
  -- one call after another
  pub keeps_then : {a b d : LeaperView Rule} → KeepsOn Rule a b → KeepsOn Rule b d → KeepsOn Rule a d
  keeps_then h g = record { rule = g.rule ∙ h.rule; memo = g.memo ∙ h.memo; sound = g.sound; spends = spends_again h.spends g.spends }

  -- a leaper that has the squares of before goes on
  pub back_again : {a d : LeaperView Rule} → KeepsOn Rule a d → Grows a.nodes d.nodes → LeaperGrows Rule a d
  back_again keeps grows = record { rule = keeps.rule; grows = grows; memo = keeps.memo; spends = keeps.spends }

  -- and one that goes on keeps on
  pub keeps_of : {a d : LeaperView Rule} → LeaperGrows Rule a d → KeepsOn Rule a d
  keeps_of on = record { rule = on.rule; memo = on.memo; sound = on.grows.sound; spends = on.spends }

  -- and one that has no more than the first of its squares has added none
  pub none_made : {a d : LeaperView Rule} (n : ℕ) (late : List Node) → d.nodes ≡ take n late → n ≤ length a.nodes → KeepsOn Rule a d → length d.nodes + 4096 * a.spent.used ≤ length a.nodes + 4096 * d.spent.used
  none_made n late e few keeps =
      let most = ap length e in
      let first = length-take n late in
      omega (arith, most, first, few, keeps.spends.rises)

-- the first squares alone go on from themselves
pub firsts_again : (n : ℕ) (old new : List Node) → IsSoundStore old → new ≡ take n old → Grows (take n old) new
firsts_again n old new sound e = subst (λ l. Grows (take n old) l) (sym e) (grows_same (take n old) (firsts_sound n old sound))

-- a run that is nearer to its end has less to do
pub less_to_do : (n : ℕ) (reached : ReachedTree) (pace : Pace) (later : ReachedTree) (after last : Pace) → IsNearer reached pace later after → later.generations ≤ n → tries last ≤ tries after
    → (n - later.generations) * most_tries + tries last < (n - reached.generations) * most_tries + tries pace
less_to_do n reached pace later after last near most copied = elim near [
  | inl on ↦ omega (arith, on.0, on.1, most, copied)
  | inr again ↦ omega (arith, again.0, again.1, most, copied)
]

-- What calls cost one after another, for each way out of a function.
use Rattle.std.proofs.Common.{ℕ, ◌+◌, ◌≤◌}
use Rattle.ca_run.specs.Prelude.{LeaperView}
use Rattle.ca_run.specs.inner.AtCost.{GoesOnAtCost}
use Rattle.ca_run.proofs.Costs.{at_cost_more, at_both_costs}

module _ {Rule : Type 0} where
  pub cost_of_two : {a b d : LeaperView Rule} {u v s t w r : ℕ} → GoesOnAtCost Rule a b u s → GoesOnAtCost Rule b d v t → u + v ≤ w → s + t ≤ r → GoesOnAtCost Rule a d w r
  cost_of_two h g n m = at_cost_more (at_both_costs h g) n m

  pub cost_of_three : {a b d e : LeaperView Rule} {u v x s t y w r : ℕ} → GoesOnAtCost Rule a b u s → GoesOnAtCost Rule b d v t → GoesOnAtCost Rule d e x y → u + v + x ≤ w → s + t + y ≤ r → GoesOnAtCost Rule a e w r
  cost_of_three h g i n m = cost_of_two (at_both_costs h g) i n m

  pub cost_of_four : {a b d e f : LeaperView Rule} {u v x u' s t y s' w r : ℕ} → GoesOnAtCost Rule a b u s → GoesOnAtCost Rule b d v t → GoesOnAtCost Rule d e x y → GoesOnAtCost Rule e f u' s'
      → u + v + x + u' ≤ w → s + t + y + s' ≤ r → GoesOnAtCost Rule a f w r
  cost_of_four h g i j n m = cost_of_three (at_both_costs h g) i j n m

  pub cost_of_five : {a b d e f k : LeaperView Rule} {u v x u' v' s t y s' t' w r : ℕ} → GoesOnAtCost Rule a b u s → GoesOnAtCost Rule b d v t → GoesOnAtCost Rule d e x y → GoesOnAtCost Rule e f u' s' → GoesOnAtCost Rule f k v' t'
      → u + v + x + u' + v' ≤ w → s + t + y + s' + t' ≤ r → GoesOnAtCost Rule a k w r
  cost_of_five h g i j l n m = cost_of_four (at_both_costs h g) i j l n m

pub ruleset in_turn = (at_cost_more, cost_of_two, cost_of_three, cost_of_four, cost_of_five)

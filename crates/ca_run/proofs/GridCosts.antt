-- What squares made of grids cost: a given number of units for each word at most.
use Rattle.std.proofs.Common.{◌≡◌, ℕ, suc, ◌+◌, ◌-◌, ◌*◌, ◌^◌, ◌≤◌, ap, subst, ◌∙◌, arith}
use Rattle.std.proofs.Math.Nat.{mul-le-mul, mul-le-mul_left, mul_left_comm}
use Rattle.ca_run.specs.Prelude.{LeaperView}
use Rattle.ca_run.specs.inner.AtCost.{GoesOnAtCost}
use Rattle.ca_run.proofs.Costs.{at_cost_more, at_both_costs, at_paid_cost}
use Rattle.ca_budget.proofs.Powers.{power_suc, power_some}

-- the four parts of a square, and a unit for each
pub four_of_each : (n g : ℕ) → 1 ≤ n → 4 + 4 * (n * 14 ^ g) ≤ n * 14 ^ suc g
four_of_each n g some =
    let e : n * 14 ^ suc g ≡ 14 * (n * 14 ^ g) = ap (λ m. n * m) (power_suc g) ∙ mul_left_comm n 14 (14 ^ g) in
    let s : 1 * 1 ≤ n * 14 ^ g = mul-le-mul some (power_some g) in
    omega (arith, e, s)

module _ {Rule : Type 0} where
  -- four units that are counted first, the four parts, and the square of these
  pub at_cost_of_four : {a b d e f g h : LeaperView Rule} (x : ℕ) → GoesOnAtCost Rule a b 4 0 → b.spent.used ≡ a.spent.used + 4 → b.nodes ≡ a.nodes → GoesOnAtCost Rule b d x 125 → GoesOnAtCost Rule d e x 125
      → GoesOnAtCost Rule e f x 125 → GoesOnAtCost Rule f g x 125 → GoesOnAtCost Rule g h 0 1 → GoesOnAtCost Rule a h (4 + 4 * x) 0
  at_cost_of_four {a} {b} x paid counts same nw ne sw se joined =
      at_paid_cost {a = a} {b = b} 4 paid counts same (at_both_costs (at_both_costs (at_both_costs nw ne) (at_both_costs sw se)) joined) (omega arith) (omega arith)

  -- what they cost in all
  pub at_cost_of_parts : {a b : LeaperView Rule} (n halvings : ℕ) → 1 ≤ n → 1 ≤ halvings → GoesOnAtCost Rule a b (4 + 4 * (n * 14 ^ (halvings - 1))) 0 → GoesOnAtCost Rule a b (n * 14 ^ halvings) 125
  at_cost_of_parts n halvings some parts h =
      let up : suc (halvings - 1) ≡ halvings = omega arith in
      let few = subst (λ g. 4 + 4 * (n * 14 ^ (halvings - 1)) ≤ n * 14 ^ g) up (four_of_each n (halvings - 1) some) in
      at_cost_more h few (omega arith)

-- a square without parts costs no more than one with some
pub one_of_each : (n g : ℕ) → n ≤ (1 + n) * 14 ^ g
one_of_each n g =
    let s : (1 + n) * 1 ≤ (1 + n) * 14 ^ g = mul-le-mul_left (1 + n) (power_some g) in
    omega (arith, s)

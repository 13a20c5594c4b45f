-- How the costs of calls add up.
use Rattle.std.proofs.Common.{◌≡◌, ℕ, suc, ◌+◌, ◌-◌, ◌*◌, ◌/◌, ◌%◌, ◌^◌, ◌<◌, ◌≤◌, inl, inr, min, max, length, sym, ap, subst, arith}
use Rattle.std.proofs.Math.Nat.{one-le-pow, div-eq_of_lt, mod-le, mod-lt, mul-le-mul_right}
use Rattle.std.proofs.Math.Pow.{pow_mono}
use Rattle.ca_plane.proofs.Numbers.{below_or_not}
use Rattle.ca_quad.specs.Prelude.{IsSoundStore}
use Rattle.ca_run.specs.Prelude.{LeaperView, Costs}
use Rattle.ca_run.specs.inner.AtCost.{GoesOnAtCost, SpendsAtMost}
use Rattle.ca_run.proofs.LeaperGrowth.{goes_on_same, goes_on_again}
use Rattle.ca_budget.specs.Prelude.{Spent}
use Rattle.ca_budget.proofs.Spent.{spends_same, spends_again}
use Rattle.ca_budget.proofs.Powers.{power_suc, power_some, power_more}

module _ {Rule : Type 0} where
  -- one call after another
  pub costs_then : {a b d : LeaperView Rule} {u v s t w r : ℕ} → Costs Rule a b u s → Costs Rule b d v t → u + v ≤ w → s + t ≤ r → Costs Rule a d w r
  costs_then h g n m = record { most = omega (arith, h.most, g.most, n); made = omega (arith, h.made, g.made, m) }

  pub costs_none : {a : LeaperView Rule} {w r : ℕ} → Costs Rule a a w r
  costs_none = record { most = omega arith; made = omega arith }

  pub costs_more : {a b : LeaperView Rule} {u s w r : ℕ} → Costs Rule a b u s → u ≤ w → s ≤ r → Costs Rule a b w r
  costs_more h n m = record { most = omega (arith, h.most, n); made = omega (arith, h.made, m) }

  -- units that are counted first pay for 4096 squares each
  pub costs_paid : {a b d : LeaperView Rule} {u w s : ℕ} (k : ℕ) → b.spent.used ≡ a.spent.used + k → b.nodes ≡ a.nodes → Costs Rule b d u s → k + u ≤ w → s ≤ 4096 * k → Costs Rule a d w 0
  costs_paid {a} {b} k e same h n m =
      let length_is : length b.nodes ≡ length a.nodes = ap length same in
      record { most = omega (arith, h.most, n, e); made = omega (arith, h.made, e, m, length_is) }

  -- a leaper that does nothing
  pub at_cost_none : {w r : ℕ} (l : LeaperView Rule) → IsSoundStore l.nodes → GoesOnAtCost Rule l l w r
  at_cost_none l sound = record { goes_on = goes_on_same Rule l sound; costs = costs_none }

  pub at_cost_more : {a b : LeaperView Rule} {u s w r : ℕ} → GoesOnAtCost Rule a b u s → u ≤ w → s ≤ r → GoesOnAtCost Rule a b w r
  at_cost_more h n m = record { goes_on = h.goes_on; costs = costs_more h.costs n m }

  -- from the same leaper to the same one
  pub at_cost_as : {old a b new : LeaperView Rule} {u s : ℕ} → a ≡ old → new ≡ b → GoesOnAtCost Rule a b u s → GoesOnAtCost Rule old new u s
  at_cost_as {old} {a} {b} {new} {u} {s} begins ends h = subst (λ l. GoesOnAtCost Rule l new u s) begins (subst (λ l. GoesOnAtCost Rule a l u s) (sym ends) h)

  -- two calls, one after the other
  pub at_both_costs : {a b d : LeaperView Rule} {u v s t : ℕ} → GoesOnAtCost Rule a b u s → GoesOnAtCost Rule b d v t → GoesOnAtCost Rule a d (u + v) (s + t)
  at_both_costs h g = record { goes_on = goes_on_again Rule _ _ _ h.goes_on g.goes_on; costs = costs_then h.costs g.costs (omega arith) (omega arith) }

  -- units that are counted first pay for what is done then
  pub at_paid_cost : {a b d : LeaperView Rule} {u w s : ℕ} (k : ℕ) → GoesOnAtCost Rule a b k 0 → b.spent.used ≡ a.spent.used + k → b.nodes ≡ a.nodes → GoesOnAtCost Rule b d u s → k + u ≤ w → s ≤ 4096 * k → GoesOnAtCost Rule a d w 0
  at_paid_cost {a} {b} k paid e same h n m = record { goes_on = goes_on_again Rule _ _ _ paid.goes_on h.goes_on; costs = costs_paid {a = a} {b = b} k e same h.costs n m }

-- the nine and the four of a level below, and the result itself
pub thirteen : (g : ℕ) → suc (13 * 14 ^ g) ≤ 14 ^ suc g
thirteen g =
    let e = power_suc g in
    let s = power_some g in
    omega (arith, e, s)

module _ {Rule : Type 0} where
  -- the nine, two pairs of the four, and the square of these
  pub at_cost_of_thirteen : {a b d e f : LeaperView Rule} (x : ℕ) → GoesOnAtCost Rule a b (9 * x) 9 → GoesOnAtCost Rule b d (2 * x) 2 → GoesOnAtCost Rule d e (2 * x) 2 → GoesOnAtCost Rule e f 0 1 → GoesOnAtCost Rule a f (13 * x) 19
  at_cost_of_thirteen x nine north south joined = at_cost_more (at_both_costs (at_both_costs nine north) (at_both_costs south joined)) (omega arith) (omega arith)

  -- the centre of a square that has parts
  pub at_cost_of_nine : {a b : LeaperView Rule} (part_level : ℕ) → 1 ≤ part_level → GoesOnAtCost Rule a b (13 * 14 ^ (part_level - 1)) 19 → GoesOnAtCost Rule a b (14 ^ part_level - 1) 19
  at_cost_of_nine part_level some h =
      let up : suc (part_level - 1) ≡ part_level = omega arith in
      let few = subst (λ g. suc (13 * 14 ^ (part_level - 1)) ≤ 14 ^ g) up (thirteen (part_level - 1)) in
      at_cost_more h (omega (arith, few)) (omega arith)

  -- the same, which is counted first
  pub at_cost_of_centre : {old a b d new : LeaperView Rule} (part_level : ℕ) → a ≡ old → new ≡ d → GoesOnAtCost Rule a b 1 0 → b.spent.used ≡ a.spent.used + 1 → b.nodes ≡ a.nodes → GoesOnAtCost Rule b d (14 ^ part_level - 1) 19
      → GoesOnAtCost Rule old new (14 ^ part_level) 0
  at_cost_of_centre {old} {a} {b} part_level begins ends paid e same h =
      let some = power_some part_level in
      at_cost_as begins ends (at_paid_cost {a = a} {b = b} 1 paid e same h (omega (arith, some)) (omega arith))

-- a tree is made no wider than the centre needs that shows it some generations later
pub wide_squares : (level j k : ℕ) → k ≡ max level (j + 1) → 1 ≤ level → level ≤ 123 → j ≤ 60 → 130 * (k + 2 - level) ≤ 16250
wide_squares level j k is some low time = omega (arith, is, some, low, time)

pub at_wide_cost : {Rule : Type 0} {a b d : LeaperView Rule} (level j k : ℕ) → k ≡ max level (j + 1) → 1 ≤ level → level ≤ 123 → j ≤ 60 → GoesOnAtCost Rule a b 0 (130 * (k + 2 - level)) → GoesOnAtCost Rule b d (14 ^ k) 0
    → GoesOnAtCost Rule a d (14 ^ max level (j + 1)) 16250
at_wide_cost level j k is some low time wide root =
    let most = power_more k (max level (j + 1)) (omega (arith, is)) in
    let few = wide_squares level j k is some low time in
    at_cost_more (at_both_costs wide root) (omega (arith, most)) (omega (arith, few))

-- ---- a leap for each digit

power_twice : (g : ℕ) → 14 ^ g + 14 ^ g ≤ 14 ^ suc g
power_twice g =
    let e = power_suc g in
    omega (arith, e)

pub one_more : (j x y : ℕ) → y ≤ x → j * x + y ≤ (j + 1) * x
one_more j x y low = omega (arith, low)

-- ---- work that is counted in a loop

pub charged_none : {n : ℕ} (spent : Spent) → SpendsAtMost spent spent n
charged_none spent = record { spends = spends_same spent; most = omega arith }

-- `each` units k times, and no more than these once more
pub charged_more : {a b d : Spent} (k each count : ℕ) → count ≤ each → SpendsAtMost a b (k * each) → SpendsAtMost b d count → SpendsAtMost a d ((k + 1) * each)
charged_more k each count few h g =
    let more = one_more k each count few in
    record { spends = spends_again h.spends g.spends; most = omega (arith, h.most, g.most, more) }

-- within n times
pub charged_within : {a b d : Spent} (n k each count : ℕ) → k < n → count ≤ each → SpendsAtMost a b (k * each) → SpendsAtMost b d count → SpendsAtMost a d (n * each)
charged_within n k each count early few h g =
    let sum = charged_more k each count few h g in
    let all : (k + 1) * each ≤ n * each = mul-le-mul_right each (omega (arith, early)) in
    record { spends = sum.spends; most = omega (arith, sum.most, all) }

-- ---- leaps for the digits of a number

-- a binary digit that is 1 stands before the number's end
pub digit_below : (n j d : ℕ) → n / 2 ^ j % 2 ≡ 1 → n < 2 ^ d → j < d
digit_below n j d one less = elim (below_or_not j d) [
  | inl below ↦ below
  | inr above ↦
      let most : 2 ^ d ≤ 2 ^ j = pow_mono above in
      let small : n < 2 ^ j = omega (arith, most, less) in
      let none = div-eq_of_lt small in
      absurd (omega (arith, one, none))
]

-- the digits before one of them are a number below its power of two, and no more than all of them
pub first_digits : (reached left j : ℕ) → reached ≡ 0 → reached + left % 2 ^ j < 2 ^ j
first_digits reached left j none =
    let less = mod-lt left (one-le-pow j 2 (omega arith)) in
    omega (arith, less, none)

pub all_digits : (reached left n j d : ℕ) → reached + left ≡ n → n < 2 ^ d → reached + left % 2 ^ j < 2 ^ d
all_digits reached left n j d sum time =
    let most = mod-le left (2 ^ j) in
    omega (arith, most, sum, time)

module _ (k d j level : ℕ) (digit : j < d) where
  -- a tree of level k that leaps from its first generation onwards: all before cost as much as the leap of a digit
  pub rising_cost : 1 ≤ k → level ≤ max k (suc j) + 1 → 14 ^ (k + min d j + 1) + 14 ^ max level (j + 1) ≤ 14 ^ (k + min d (j + 1) + 1)
  rising_cost some low =
      let here : k + min d j + 1 ≡ k + j + 1 = omega (arith, digit) in
      let next : k + min d (j + 1) + 1 ≡ suc (k + j + 1) = omega (arith, digit) in
      let high : max level (j + 1) ≤ k + j + 1 = omega (arith, low, some) in
      let most = power_more (max level (j + 1)) (k + j + 1) high in
      let twice = power_twice (k + j + 1) in
      rw (here, next) (omega (arith, most, twice))

  -- one that leaps later: each leap costs no more than one of the largest tree
  pub level_cost : level ≤ max k (suc d) + 1 → j * 14 ^ (max k d + 2) + 14 ^ max level (j + 1) ≤ (j + 1) * 14 ^ (max k d + 2)
  level_cost low =
      let high : max level (j + 1) ≤ max k d + 2 = omega (arith, low, digit) in
      one_more j (14 ^ (max k d + 2)) (14 ^ max level (j + 1)) (power_more (max level (j + 1)) (max k d + 2) high)

-- ---- dense planes

pub six_digits : (n d : ℕ) → 32 ≤ n → n < 2 ^ d → 6 ≤ d
six_digits n d many time = elim (below_or_not d 6) [
  | inl few ↦
      let low : d ≤ 5 = omega (arith, few) in
      let most : 2 ^ d ≤ 2 ^ 5 = pow_mono low in
      absurd (omega (arith, most, many, time))
  | inr e ↦ e
]

-- eight grids
pub grids_cost : (i k : ℕ) → i ≤ 8 → i * (2 * 14 ^ (k + 4)) ≤ 14 ^ (k + 6)
grids_cost i k few =
    let most : i * (2 * 14 ^ (k + 4)) ≤ 8 * (2 * 14 ^ (k + 4)) = mul-le-mul_right (2 * 14 ^ (k + 4)) few in
    let e = power_suc (k + 4) in
    let f = power_suc (suc (k + 4)) in
    let same : k + 6 ≡ suc (suc (k + 4)) = omega arith in
    rw same (omega (arith, most, e, f))

-- and all leaps after them
pub dense_cost : (k d : ℕ) → 7 ≤ k → 6 ≤ d → 14 ^ (k + 6) + 61 * 14 ^ (max k d + 2) ≤ 14 ^ (k + d + 2)
dense_cost k d least many =
    let top = max k d + 2 in
    let grids = power_more (k + 6) (k + d) (omega (arith, many)) in
    let leaps = power_more (suc (suc top)) (k + d) (omega (arith, least, many)) in
    let e = power_suc top in
    let f = power_suc (suc top) in
    let twice = power_twice (k + d) in
    let all = power_more (suc (k + d)) (k + d + 2) (omega arith) in
    omega (arith, grids, leaps, e, f, twice, all)

-- ---- runs in a store of their own

-- and less than 13 times 14 to the power of 16
pub countable_one : (k used : ℕ) → 14 ≤ k → used < 2 ^ 64 → used ≤ 13 * 14 ^ (k + 2)
countable_one k used long few =
    let power = power_more 16 (k + 2) (omega (arith, long)) in
    omega (arith, power, few)

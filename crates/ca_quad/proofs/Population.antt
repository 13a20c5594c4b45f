-- The live cells of four squares that lie together are those of each.
use Rattle.std.proofs.Common.{◌≡◌, ℕ, zero, suc, ◌+◌, ◌-◌, ◌*◌, ◌<◌, ◌≤◌, ◌^◌, min, inl, inr, ◌==◌, Result, Ok, Err, IfOk, List, refl, ap, arith}
use Rattle.std.proofs.lemmas.Bool.{cases_Bool}
use Rattle.std.proofs.Math.Nat.{pow-le-pow_right}
use Rattle.ca_quad.specs.declared.node.Node.{Node}
use Rattle.ca_quad.specs.Prelude.{IsOf, joined_cells, cell_of}
use Rattle.ca_quad.specs.inner.Measure.{IsJoined}
use Rattle.ca_quad.specs.inner.Population.{sum_below, cell_population, population, IsPopulationIn, IsCountOf}
use Rattle.ca_quad.proofs.Cells.{at_nw, at_ne, at_sw, at_se}

pub sum_split : (m n : ℕ) (term : ℕ → ℕ) → sum_below (m + n) term ≡ sum_below m term + sum_below n (λ i. term (m + i))
sum_split m zero term = let e : m + zero ≡ m = omega arith in rw e (omega arith)
sum_split m (suc n) term = let e : m + suc n ≡ suc (m + n) = omega arith in rw e (omega (arith, sum_split m n term))

pub sum_same : (n : ℕ) (f g : ℕ → ℕ) → ((i : ℕ) → i < n → f i ≡ g i) → sum_below n f ≡ sum_below n g
sum_same zero f g same = refl
sum_same (suc n) f g same = omega (arith, sum_same n f g (λ i h. same i (omega arith)), same n (omega arith))

sum_plus : (n : ℕ) (f g : ℕ → ℕ) → sum_below n (λ i. f i + g i) ≡ sum_below n f + sum_below n g
sum_plus zero f g = refl
sum_plus (suc n) f g = omega (arith, sum_plus n f g)

-- the live cells of a row
row : (ℕ → ℕ → ℕ) → ℕ → ℕ → ℕ
row cells side y = sum_below side (λ x. cell_population (cells x y))

module _ (side : ℕ) (nw ne sw se : ℕ → ℕ → ℕ) where
  all : ℕ → ℕ → ℕ
  all = joined_cells side nw ne sw se

  northern : (y : ℕ) → y < side → row all (side + side) y ≡ row nw side y + row ne side y
  unfolding row all
  northern y h =
      let a : sum_below side (λ x. cell_population (joined_cells side nw ne sw se x y)) ≡ sum_below side (λ x. cell_population (nw x y)) = sum_same side _ _ (λ x i. ap cell_population (at_nw side nw ne sw se x y i h)) in
      let b : sum_below side (λ x. cell_population (joined_cells side nw ne sw se (side + x) y)) ≡ sum_below side (λ x. cell_population (ne x y)) = sum_same side _ _ (λ x i. ap cell_population (at_ne side nw ne sw se x y h)) in
      omega (arith, a, b, sum_split side side (λ x. cell_population (joined_cells side nw ne sw se x y)))

  southern : (y : ℕ) → row all (side + side) (side + y) ≡ row sw side y + row se side y
  unfolding row all
  southern y =
      let a : sum_below side (λ x. cell_population (joined_cells side nw ne sw se x (side + y))) ≡ sum_below side (λ x. cell_population (sw x y)) = sum_same side _ _ (λ x i. ap cell_population (at_sw side nw ne sw se x y i)) in
      let b : sum_below side (λ x. cell_population (joined_cells side nw ne sw se (side + x) (side + y))) ≡ sum_below side (λ x. cell_population (se x y)) = sum_same side _ _ (λ x i. ap cell_population (at_se side nw ne sw se x y)) in
      omega (arith, a, b, sum_split side side (λ x. cell_population (joined_cells side nw ne sw se x (side + y))))

  -- the four are counted apart
  pub population_together : population (joined_cells side nw ne sw se) (side + side) ≡ population nw side + population ne side + (population sw side + population se side)
  unfolding row all
  population_together =
      let a = sum_same side (row all (side + side)) (λ y. row nw side y + row ne side y) northern in
      let b = sum_same side (λ y. row all (side + side) (side + y)) (λ y. row sw side y + row se side y) (λ y h. southern y) in
      omega (arith, a, b, sum_split side side (row all (side + side)), sum_plus side (row nw side) (row ne side), sum_plus side (row sw side) (row se side))

-- of four squares that lie together the counts add up
pub count_joined : (side a b c d n : ℕ) → n ≡ min (a + b + (c + d)) (2 ^ 128 - 1) → IsJoined IsPopulationIn side a b c d n
count_joined side a b c d n all nw ne sw se i j k l p q r s = omega (arith, population_together side nw ne sw se)

pub live_least : (state : ℕ) → cell_population state ≤ 1
live_least state = elim (cases_Bool (state == 0)) [ inl e ↦ rw e (omega arith) | inr e ↦ rw e (omega arith) ]

-- a square of this side has few enough cells for a u128
module _ (side : ℕ) (low : side ≤ 2 ^ 63) (cells : ℕ → ℕ → ℕ) where
  row_least : (y n : ℕ) → sum_below n (λ x. cell_population (cells x y)) ≤ n
  row_least y zero = omega arith
  row_least y (suc n) = omega (arith, row_least y n, live_least (cells n y))

  rows_least : (n : ℕ) → sum_below n (λ y. sum_below side (λ x. cell_population (cells x y))) ≤ 2 ^ 63 * n
  rows_least zero = omega arith
  rows_least (suc n) = omega (arith, low, rows_least n, row_least n side)

  population_least : population cells side ≤ 2 ^ 126
  population_least = omega (arith, low, rows_least side)

-- at a level of at most 63 the count is exact
pub count_exact : {E : Type 0} (nodes : List Node) (r : Result ℕ E) (id k : ℕ) → IsOf nodes id k → k ≤ 63 → IfOk r (IsCountOf nodes id)
    → IfOk r (λ n. n ≡ population (cell_of nodes k id) (2 ^ k))
count_exact nodes (Ok n) id k h low count =
    let side : 2 ^ k ≤ 2 ^ 63 = pow-le-pow_right {n = 2} (omega arith) {i = k} {j = 63} low in
    omega (arith, count k h, population_least (2 ^ k) side (cell_of nodes k id))
count_exact nodes (Err e) id k h low count = tt

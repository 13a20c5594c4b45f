-- Sums of the counted neighbours of a cell.
use Rattle.std.proofs.Common.{◌≡◌, ℕ, suc, ◌<◌, ◌≤◌, sym, ap, ◌∙◌, arith}
use Rattle.ca_plane.specs.Prelude.{counted_sum}
use Rattle.ca_plane.specs.declared.counting.Neighbourhood.{Neighbourhood}
use Rattle.ca_plane.specs.declared.counting.Neighbourhood.TheVariants.{Moore, VonNeumann, Hexagonal}
use Rattle.ca_bricks.specs.Prelude.{nine_at, sum_round}

-- the sum by rows is the sum among the nine
pub sum_counted : (counted : Neighbourhood) (at : ℕ → ℕ → ℕ) (x y : ℕ) → sum_round counted at x y ≡ counted_sum counted (nine_at at x y)
sum_counted Moore at x y = omega arith
sum_counted VonNeumann at x y = omega arith
sum_counted Hexagonal at x y = omega arith

-- no more than eight are live
pub sum_round-le : (counted : Neighbourhood) (at : ℕ → ℕ → ℕ) (x y : ℕ) → ((u v : ℕ) → at u v < 2) → sum_round counted at x y ≤ 8
sum_round-le Moore at x y bit =
    omega (arith, bit x y, bit (suc x) y, bit (suc (suc x)) y, bit x (suc y), bit (suc (suc x)) (suc y), bit x (suc (suc y)), bit (suc x) (suc (suc y)), bit (suc (suc x)) (suc (suc y)))
sum_round-le VonNeumann at x y bit = omega (arith, bit (suc x) y, bit x (suc y), bit (suc (suc x)) (suc y), bit (suc x) (suc (suc y)))
sum_round-le Hexagonal at x y bit =
    omega (arith, bit x y, bit (suc x) y, bit x (suc y), bit (suc (suc x)) (suc y), bit (suc x) (suc (suc y)), bit (suc (suc x)) (suc (suc y)))

-- where the nine cells are the same, the sums are
pub sum_round-same : (counted : Neighbourhood) (f g : ℕ → ℕ → ℕ) (x y : ℕ) → nine_at f x y ≡ nine_at g x y → sum_round counted f x y ≡ sum_round counted g x y
sum_round-same counted f g x y same = sum_counted counted f x y ∙ ap (counted_sum counted) same ∙ sym (sum_counted counted g x y)

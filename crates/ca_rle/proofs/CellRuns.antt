-- Runs of cells, one at each place of a range.
use Rattle.std.proofs.Common.{◌≡◌, ℕ, zero, suc, ◌+◌, ◌<◌, length, map, refl, ap, arith}
use Rattle.std.specs.List.{AllByRecursion, range_with_len}

pub all_run : {X : Type 0} (P : X → Type 0) (f : ℕ → X) (a n : ℕ) → ((k : ℕ) → k < a + n → P (f k)) → AllByRecursion P (map f (range_with_len a n))
all_run P f a zero h = tt
all_run P f a (suc n) h = (h a (omega arith), all_run P f (a + 1) n (λ k l. h k (omega arith)))

pub length_run : {X : Type 0} (f : ℕ → X) (a n : ℕ) → length (map f (range_with_len a n)) ≡ n
length_run f a zero = refl
length_run f a (suc n) = ap suc (length_run f (a + 1) n)

-- Prime numbers.
use Rattle.std.specs.Prelude.{◌≡◌, ◌⊎◌, ℕ, ◌<◌}
use Rattle.std.specs.Int.{◌∣◌}

-- a number above 1 that no number divides but 1 and itself
pub record IsPrime (n : ℕ) : Type 0 where
  pub above : 1 < n
  pub alone : (d : ℕ) → d ∣ n → (d ≡ 1) ⊎ (d ≡ n)

use Rattle.std.proofs.Common.{ℕ, ◌-◌, ◌<◌, ◌≤◌, ◌^◌}
use Rattle.ca_bricks.proofs.aged.digit_count.Given as goal

-- fewer digits are too few
abbrev pub invariant-digits : goal.invariant-digits
invariant-digits l = (d : ℕ) → d < l.digits → 2 ^ d ≤ l.fn.states - 2

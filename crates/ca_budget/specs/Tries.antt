-- What a run may still try (our own).
use Rattle.std.specs.Prelude.{ℕ, ◌+◌, ◌-◌, ◌*◌, ◌^◌, if◌then◌else◌}
use Rattle.ca_budget.specs.declared.pace.Pace.{Pace}

-- what may still be tried before a leap succeeds: memory may be refused for the first time, the room may grow, leaps become shorter, the same leap be tried again, or squares be dropped
abbrev pub tries : Pace → ℕ
tries pace = (if pace.refused then 0 else 2 ^ 75) + (2 ^ 64 - pace.room) * 1024 + 8 * pace.digit + 2 * (3 - pace.repeats) + (if pace.fresh then 0 else 1)

-- more than may ever be tried
abbrev pub most_tries : ℕ
most_tries = 2 ^ 76

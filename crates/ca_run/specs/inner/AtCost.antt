-- What a leaper's calls leave, and at which cost (our own).
use Rattle.std.specs.Prelude.{ℕ, ◌+◌, ◌≤◌, max}
use Rattle.ca_budget.specs.Prelude.{Spent, Spends}
use Rattle.ca_run.specs.Leaping.{LeaperView, LeaperGrows, Costs}

-- what the leaper had stays; at most `units` units of work were done, and at most 4096 squares added for each of them,
-- and `squares` besides
pub record GoesOnAtCost (Rule : Type 0) (old new : LeaperView Rule) (units squares : ℕ) : Type 0 where
  pub goes_on : LeaperGrows Rule old new
  pub costs : Costs Rule old new units squares

-- at most `units` units of work were counted, and none is given back
pub record SpendsAtMost (old new : Spent) (units : ℕ) : Type 0 where
  pub spends : Spends old new
  pub most : new.used ≤ old.used + units

-- the same leaper, with another limit of work, of at least what is used up
abbrev pub limited : {Rule : Type 0} → LeaperView Rule → (limit : ℕ) → LeaperView Rule
limited l limit = record { rule = l.rule; nodes = l.nodes; memo = l.memo; spent = record { used = l.spent.used; limit = max l.spent.used limit } }

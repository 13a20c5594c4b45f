use Rattle.std.proofs.Common.{◌≡◌, ◌-◌, ◌≤◌}
use Rattle.ca_run.specs.Prelude.{LeaperGrows}
use Rattle.ca_census.proofs.search.try_doubling.Given as goal

-- the generations are within the limit, and no more of the budget is left than at first
abbrev pub invariant-generations : goal.invariant-generations
invariant-generations g l = record {
  goes_on : LeaperGrows _ l.fn.leaper l.leaper;
  reach : l.search.reach ≡ l.fn.search.reach;
  budget : l.search.budget ≤ l.fn.search.budget;
  limit : l.limit ≡ l.fn.search.reach.limit;
  within : l.generations ≤ l.limit;
}

abbrev pub decreases-generations : goal.decreases-generations
decreases-generations g l = l.limit - l.generations

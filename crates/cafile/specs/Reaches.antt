-- How far the command `census` looks by its words, and which folder its files are added to.
use Rattle.std.specs.Prelude.{◌≡◌, ℕ, ◌+◌, ◌*◌, ◌-◌, min, Option, None, Some, option_map, String, string_bytes}
use Rattle.std.specs.declared.alloc.Global.{Global}
use Rattle.ca_plane.specs.Prelude.{longest_period, most_generations}
use Rattle.ca_cli.specs.Words.{memo_of, work_of, generations_of}
use Rattle.ca_cli.specs.declared.commands.{census.CensusSearch.CensusSearch, pattern.PatternExtras.PatternExtras}
use Rattle.ca_census.specs.declared.reach.Reach.{Reach}
use Rattle.ca_census_runs.specs.declared.task.CensusTask.{CensusTask}

-- how many generations may follow after these, so that the sum is within its limit
abbrev pub most_after : ℕ → ℕ
most_after start = min longest_period (most_generations - start)

-- up to so many generations, whatever runs of the plane take, with a budget that goes by them
abbrev pub limited_reach : (limit start : ℕ) → Reach
limited_reach limit start = record { start = start; limit = limit; budget = min (5000000 + 64 * limit) (longest_period - 1); patience = None }

-- how far it is looked: as many generations as are set, or 65536, while patience and a usual budget last
abbrev pub reach_of : Option ℕ → ℕ → Reach
reach_of (Some limit) start = limited_reach (min limit (most_after start)) start
reach_of None start = record { start = start; limit = min 65536 (most_after start); budget = 5000000; patience = Some 3000000 }

-- what is done with each file is what these words ask for
pub record IsCensusTask (search : CensusSearch) (into : Option (String Global)) (extras : PatternExtras) (task : CensusTask) : Type 0 where
  pub memo : task.limits.memo ≡ memo_of extras.extras.memo
  pub work : task.limits.work ≡ work_of extras.extras.work
  pub reach : task.reach ≡ reach_of search.limit (generations_of extras.after)
  pub listed : task.listed ≡ search.listed
  pub folder : option_map (λ folder. folder.now) task.folder ≡ option_map string_bytes into

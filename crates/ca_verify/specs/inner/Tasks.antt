-- What is to be judged.
use Rattle.std.specs.Prelude.{◌≡◌, ℕ, ◌<◌, List, map, length}
use Rattle.std.specs.Option.{option_copied}
use Rattle.ca_verify.specs.declared.verifier.task.Task.{Task}
use Rattle.ca_text.specs.Prelude.{HoldsOfBoth, HasGoodNumbers}
use Rattle.ca_answers.specs.Prelude.{SuppliedFiles, bytes_at}
use Rattle.ca_pattern.specs.Prelude.{AreGoodLimits}
use Rattle.ca_verify.specs.NeededFiles.{AreRead}

-- a claim of a text that was read, whose paths all have a place, within good limits
pub record CanBeJudged (task : Task) : Type 0 where
  pub limits : AreGoodLimits task.limits
  pub within : HoldsOfBoth (λ i. i < length task.needed.now.found.items) task.claim.now.patterns
  pub numbers : HasGoodNumbers task.claim.now.kind

-- it is judged on these files of a text with these paths, of which those of rule lines are given too
pub record IsOnFiles (files : SuppliedFiles) (paths rules : List (List ℕ)) (task : Task) : Type 0 where
  pub found : map option_copied task.needed.now.found.items ≡ map (bytes_at files) paths
  pub read : AreRead files paths rules task.needed.now.tables

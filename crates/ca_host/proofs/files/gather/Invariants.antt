use Rattle.std.proofs.Common.{◌≡◌, List, take}
use Rattle.std.specs.List.{AllZip}
use Rattle.ca_host.specs.Files.{Outcome, IsOutcome, loaded_files, lost_files}
use Rattle.ca_host.proofs.files.gather.Given as goal

-- what became of the paths so far
abbrev pub invariant-paths : goal.invariant-paths
invariant-paths g l =
    (outcomes : List Outcome)
    × AllZip (IsOutcome g.D.WholeFiles.gives g.D.WholeFiles.lacks l.fn.root l.fn.claims) (take l.index l.fn.claims.paths) outcomes
    × (l.files.loaded.items ≡ loaded_files outcomes) × (l.files.missing.items ≡ lost_files outcomes)

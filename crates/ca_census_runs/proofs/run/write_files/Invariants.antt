use Rattle.std.proofs.Common.{◌≡◌, take}
use Rattle.ca_census_runs.proofs.FilesTold.{HaveTold}
use Rattle.ca_census_runs.proofs.run.write_files.Given as goal

-- the files so far are told of, and the index is that of the next one
abbrev pub invariant-subjects : goal.invariant-subjects
invariant-subjects g l = record {
  index : l.index ≡ l.subject-index;
  told : HaveTold g.F.Folder.files g.W.Write.contents l.fn.folder l.folder l.fn.device l.device l.rules l.task (take l.subject-index l.subjects) l.names l.refused.items;
}

use Rattle.std.proofs.Common.{◌≡◌, map, take}
use Rattle.ca_report.specs.declared.absence.MissingFile.{MissingFile}
use Rattle.ca_host.specs.declared.files.LostFile.{LostFile}
use Rattle.ca_host.proofs.files.missing_files.Given as goal

-- the paths and the reasons of the files so far
abbrev pub invariant-files : goal.invariant-files
invariant-files l = record {
  paths : map (λ (f : MissingFile). f.path.now) l.missing.items ≡ map (λ (f : LostFile). f.path.items) (take l.file-index l.lost);
  reasons : map (λ (f : MissingFile). f.why) l.missing.items ≡ map (λ (f : LostFile). f.why) (take l.file-index l.lost);
}

use Rattle.std.proofs.Common.{◌≡◌, take}
use Rattle.ca_census_files.specs.Files.{AreObjectFiles}
use Rattle.ca_census_files.proofs.files.object_files.Given as goal

-- the files of the objects so far, each with its number
abbrev pub invariant-objects : goal.invariant-objects
invariant-objects l = record {
  numbered : l.number ≡ l.object-index;
  made : AreObjectFiles l.name 1 (take l.object-index l.objects) l.origin l.generation l.files.items;
}

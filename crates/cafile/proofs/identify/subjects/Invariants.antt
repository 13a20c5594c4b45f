use Rattle.std.proofs.Common.{◌≡◌, map, take}
use Rattle.cafile.specs.Contents.{handed_at, loaded_at}
use Rattle.cafile.proofs.identify.subjects.Given as goal

-- what is handed on of the files so far
abbrev pub invariant-files : goal.invariant-files
invariant-files l = map handed_at l.subjects.items ≡ map loaded_at (take l.file-index l.loaded)

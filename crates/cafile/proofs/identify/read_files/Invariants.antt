use Rattle.std.proofs.Common.{◌≡◌, map, take}
use Rattle.std.specs.List.{filter_map}
use Rattle.cafile.specs.Contents.{file_at, read_at}
use Rattle.cafile.proofs.identify.read_files.Given as goal

-- those of the files so far that were read
abbrev pub invariant-files : goal.invariant-files
invariant-files l = map file_at l.files.items ≡ filter_map read_at (take l.file-index l.loaded)

use Rattle.std.proofs.Common.{◌≡◌, map, take}
use Rattle.ca_pattern.specs.declared.file.File.{File}
use Rattle.ca_host.specs.declared.files.LoadedFile.{LoadedFile}
use Rattle.ca_host.proofs.files.views.Given as goal

-- the paths and the bytes of the files so far
abbrev pub invariant-files : goal.invariant-files
invariant-files l = record {
  paths : map (λ (f : File). f.path.now) l.views.items ≡ map (λ (f : LoadedFile). f.path.items) (take l.file-index l.loaded);
  bytes : map (λ (f : File). f.bytes.now) l.views.items ≡ map (λ (f : LoadedFile). f.bytes.items) (take l.file-index l.loaded);
}

use Rattle.std.proofs.Common.{◌≡◌, map, take}
use Rattle.std.specs.Option.{option_copied}
use Rattle.ca_answers.specs.Prelude.{contents, bytes_at}
use Rattle.ca_verify.proofs.verifier.find_files.Given as goal

-- the bytes of the files so far are found
abbrev pub invariant-files : goal.invariant-files
invariant-files l = map option_copied l.found.items ≡ map (bytes_at (contents (take l.file-index l.files))) l.claims.paths

use Rattle.std.proofs.Common.{◌≡◌, drop}
use Rattle.ca_host.specs.Files.{bytes_at}
use Rattle.ca_host.proofs.files.bytes_at.Given as goal

-- it is the first with this path among those that are left
abbrev pub invariant-files : goal.invariant-files
invariant-files l = bytes_at l.fn.files l.fn.path ≡ bytes_at (drop l.file-index l.fn.files) l.fn.path

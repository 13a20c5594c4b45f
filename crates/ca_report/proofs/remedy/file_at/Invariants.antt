use Rattle.std.proofs.Common.{◌≡◌, drop}
use Rattle.ca_report.specs.Prelude.{file_at}
use Rattle.ca_report.proofs.remedy.file_at.Given as goal

-- it is the first with this path among those that are left
abbrev pub invariant-files : goal.invariant-files
invariant-files l = file_at l.fn.files l.fn.path ≡ file_at (drop l.index l.fn.files) l.fn.path

use Rattle.std.proofs.Common.{◌≡◌, drop}
use Rattle.ca_report.specs.Prelude.{missing_at}
use Rattle.ca_report.proofs.absence.missing_at.Given as goal

-- it is the first with this path among those that are left
abbrev pub invariant-files : goal.invariant-files
invariant-files l = missing_at l.fn.missing l.fn.path ≡ missing_at (drop l.index l.fn.missing) l.fn.path

use Rattle.std.proofs.Common.{◌≡◌, drop}
use Rattle.ca_verify_lines.specs.Prelude.{faulty_named}
use Rattle.ca_verify_lines.proofs.finding.faulty_named.Given as goal

-- it is the first with this name among those that are left
abbrev pub invariant-files : goal.invariant-files
invariant-files l = faulty_named l.fn.faulty l.fn.name ≡ faulty_named (drop l.index l.fn.faulty) l.fn.name

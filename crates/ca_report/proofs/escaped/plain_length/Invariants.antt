use Rattle.std.proofs.Common.{◌≡◌, ◌++◌, take, drop}
use Rattle.ca_report.specs.Prelude.{escaped}
use Rattle.ca_report.proofs.escaped.plain_length.Given as goal

-- the bytes so far are written as they are
abbrev pub invariant-bytes : goal.invariant-bytes
invariant-bytes l = escaped l.text ≡ take l.index l.text ++ escaped (drop l.index l.text)

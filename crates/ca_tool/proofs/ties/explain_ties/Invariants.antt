use Rattle.std.proofs.Common.{◌≡◌, take}
use Rattle.std.specs.Io.KnownBytes.{Appends}
use Rattle.ca_tool.specs.Ties.{tie_lines}
use Rattle.ca_tool.proofs.ties.explain_ties.Given as goal

-- the lines on the tables so far were sent, and no write failed
abbrev pub invariant-tables : goal.invariant-tables
invariant-tables g l = record {
  sent : Appends (g.W.Write.contents l.fn.device.inner) (g.W.Write.contents l.device.inner) (tie_lines (take l.table-index l.tables));
  kept : l.device.failures ≡ l.fn.device.failures;
}

use Rattle.std.proofs.Common.{◌≡◌, take}
use Rattle.std.specs.Io.KnownBytes.{Appends}
use Rattle.ca_identify_lines.specs.Prelude.{catalog_explanation}
use Rattle.ca_identify_lines.proofs.catalog.explain_entries.Given as goal

-- the lines on the entries so far were sent, and no write failed
abbrev pub invariant-entries : goal.invariant-entries
invariant-entries g l = record {
  sent : Appends (g.W.Write.contents l.fn.device.inner) (g.W.Write.contents l.device.inner) (catalog_explanation l.files (take l.entry-index l.entries));
  kept : l.device.failures ≡ l.fn.device.failures;
}

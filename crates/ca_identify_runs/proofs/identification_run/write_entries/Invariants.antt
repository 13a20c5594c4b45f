use Rattle.std.proofs.Common.{◌≡◌, [], take}
use Rattle.std.specs.List.{flat_map}
use Rattle.std.specs.Io.KnownBytes.{Appends}
use Rattle.ca_identify_lines.specs.Prelude.{entry_lines, AreEntries}
use Rattle.ca_identify_runs.proofs.Entries.{names_of}
use Rattle.ca_identify_runs.proofs.identification_run.write_entries.Given as goal

-- there are entries on the files so far, whose names are taken and whose lines are written, and no write failed
abbrev pub invariant-subjects : goal.invariant-subjects
invariant-subjects g l = record {
  names : l.names ≡ names_of l.entries.items;
  holds : AreEntries l.search.tables.now l.search.task [] (take l.subject-index l.subjects) l.entries.items;
  sent : Appends (g.W.Write.contents l.fn.device.inner) (g.W.Write.contents l.device.inner) (flat_map (entry_lines l.search.task.generations) l.entries.items);
  kept : l.device.failures ≡ l.fn.device.failures;
}

use Rattle.std.proofs.Common.{◌≡◌, ◌≤◌, ◌+◌, ◌-◌, vec_len}
use Rattle.std.specs.Io.KnownBytes.{Consumes}
use Rattle.ca_report.specs.Prelude.{max_file}
use Rattle.ca_report.proofs.read.read_all.Given as goal

-- what came so far is what the reader lost, it is no more than a file may have, and no read failed
abbrev pub invariant-reads : goal.invariant-reads
invariant-reads g l = record {
  given : Consumes (g.R.Read.remaining l.fn.device.inner) (g.R.Read.remaining l.device.inner) l.bytes.items;
  within : vec_len l.bytes ≤ max_file;
  kept : l.device.failures ≡ l.fn.device.failures;
}

abbrev pub decreases-reads : goal.decreases-reads
decreases-reads g l = max_file + 1 - vec_len l.bytes

use Rattle.std.proofs.Common.{◌≡◌, ℕ, List, length}
use Rattle.std.specs.Io.KnownBytes.{Appends}
use Rattle.ca_tool.specs.inner.Judged.{IsReportUpTo}
use Rattle.ca_tool.proofs.verification_run.report_all.Given as goal

-- the claims so far were judged and reported, no write failed, and the code is their status
abbrev pub invariant-claims : goal.invariant-claims
invariant-claims g l = record {
  reported : (text : List ℕ) × IsReportUpTo l.fn.judge l.judge l.style text l.code × Appends (g.W.Write.contents l.fn.device.inner) (g.W.Write.contents l.device.inner) text;
  kept : l.device.failures ≡ l.fn.device.failures;
}

abbrev pub decreases-claims : goal.decreases-claims
decreases-claims g l = length l.judge.claims

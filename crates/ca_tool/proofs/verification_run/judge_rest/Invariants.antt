use Rattle.std.proofs.Common.{List, length}
use Rattle.ca_verify_lines.specs.declared.finding.Finding.{Finding}
use Rattle.ca_tool.specs.inner.Judged.{WereJudged}
use Rattle.ca_tool.proofs.verification_run.judge_rest.Given as goal

-- the claims so far were judged
abbrev pub invariant-claims : goal.invariant-claims
invariant-claims l = (findings : List Finding) × WereJudged l.fn.judge l.judge findings

abbrev pub decreases-claims : goal.decreases-claims
decreases-claims l = length l.judge.claims

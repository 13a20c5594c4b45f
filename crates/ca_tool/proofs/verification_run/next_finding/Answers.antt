use Rattle.ca_tool.proofs.ReportedClaims.{judged_one}
use Rattle.ca_tool.proofs.verification_run.next_finding.Goals as goal

pub returns : goal.returns
returns g c = judged_one c.args.judge.now c.next_noted_watched.new.self _ c.in_ok-answer.ensures.noted c.in_ok-answer.ensures.given

use Rattle.std.proofs.Common.{[]}
use Rattle.ca_tool.proofs.ReportedClaims.{judged_none, judged_more}
use Rattle.ca_tool.proofs.verification_run.judge_rest.Goals as goal

pub claims-init : goal.claims-init
claims-init c = ([], judged_none _)

-- one claim more was judged, on each way
pub claims-preserved : goal.claims-preserved
claims-preserved c = judged_more _ _ _ _ _ c.claims.invariant c.in-Some.ensures.noted c.in-Some.ensures.given

pub claims-preserved-in-Some : goal.claims-preserved-in-Some
claims-preserved-in-Some c = judged_more _ _ _ _ _ c.claims.invariant c.in-Some.ensures.noted c.in-Some.ensures.given

pub claims-preserved-in-Some-2 : goal.claims-preserved-in-Some-2
claims-preserved-in-Some-2 c = judged_more _ _ _ _ _ c.claims.invariant c.in-Some.ensures.noted c.in-Some.ensures.given

pub claims-preserved-in-Some-3 : goal.claims-preserved-in-Some-3
claims-preserved-in-Some-3 c = judged_more _ _ _ _ _ c.claims.invariant c.in-Some.ensures.noted c.in-Some.ensures.given

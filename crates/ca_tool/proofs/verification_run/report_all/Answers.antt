use Rattle.std.proofs.Common.{rules, [], refl}
use Rattle.std.proofs.KnownBytes.{Appends-nil}
use Rattle.ca_tool.proofs.ReportedClaims.{judged_none, report_whole, report_in_part}
use Rattle.ca_tool.proofs.verification_run.report_all.Goals as goal

pub claims-init : goal.claims-init
claims-init g c = record {
  reported = ([], record { findings = []; judged = judged_none _; lines = refl; status = refl }, Appends-nil _);
  kept = refl;
}

-- one claim more was reported in part
pub returns-then-is_err : goal.returns-then-is_err
returns-then-is_err g c = record {
  whole = tt;
  kept = tt;
  front = λ is. report_in_part c.args.judge.now c.claims.judge c.next_finding.new.judge c.args.style.now c.in-Some.finding (g.W.Write.contents c.args.device.now.inner) (g.W.Write.contents c.claims.device.inner)
      (g.W.Write.contents c.send_finding.new.device.inner) c.claims.code c.claims.invariant.reported c.in-Some.ensures (search rules);
  counted = search rules;
  fault = search rules;
  nothing = search rules;
}

-- one claim more was reported, on each way
pub claims-preserved-else-is_err : goal.claims-preserved-else-is_err
claims-preserved-else-is_err g c =
    record { reported = report_whole c.args.judge.now c.claims.judge c.next_finding.new.judge c.args.style.now c.in-Some.finding _ _ _ _ _ c.claims.invariant.reported c.in-Some.ensures c.worse_status-code.ensures (search rules); kept = search rules }

pub claims-preserved : goal.claims-preserved
claims-preserved g c =
    record { reported = report_whole c.args.judge.now c.claims.judge c.next_finding.new.judge c.args.style.now c.in-Some.finding _ _ _ _ _ c.claims.invariant.reported c.in-Some.ensures c.worse_status-code.ensures (search rules); kept = search rules }

pub claims-preserved-else-is_err-2 : goal.claims-preserved-else-is_err-2
claims-preserved-else-is_err-2 g c =
    record { reported = report_whole c.args.judge.now c.claims.judge c.next_finding.new.judge c.args.style.now c.in-Some.finding _ _ _ _ _ c.claims.invariant.reported c.in-Some.ensures c.worse_status-code.ensures (search rules); kept = search rules }

use Rattle.std.proofs.Common.{subst}
use Rattle.ca_answers.specs.Prelude.{Judging}
use Rattle.ca_verify_lines.specs.Prelude.{WritesReport}
use Rattle.ca_tool.proofs.ReportedClaims.{report_on_first}
use Rattle.ca_tool.proofs.WrittenTexts.{writes_weaker}
use Rattle.ca_tool.proofs.verification_run.verify_watched.Goals as goal

-- the judge had all claims of the text, and those that were judged are the first ones
pub returns : goal.returns
returns g c =
    record {
      tells = subst (λ (j : Judging). WritesReport g.W.Write.contents c.args.device.now c.report_all.new.device j c.args.style.now c.report_all.result) c.in-Ok.ensures.judging
          (writes_weaker g.W.Write.contents _ _ _ _ _ _ _ c.report_all.result c.report_all.ensures (λ text code is. is)
          (λ part. let (text, begun, sent) = part in (text, report_on_first _ _ _ text begun, sent)));
    }

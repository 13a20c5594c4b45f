use Rattle.std.proofs.Common.{refl, subst}
use Rattle.ca_answers.specs.Prelude.{Judging}
use Rattle.ca_verify_lines.specs.Prelude.{WritesPlainReport}
use Rattle.ca_tool.proofs.ReportedClaims.{plain_report, plain_part}
use Rattle.ca_tool.proofs.WrittenTexts.{writes_weaker}
use Rattle.ca_tool.proofs.verification_run.verify_run.Goals as goal

-- the judge had all claims of the text, and those that aren't reported have answers too
pub returns : goal.returns
returns g c =
    record {
      answers = subst (λ (j : Judging). WritesPlainReport g.W.Write.contents c.args.device.now c.report_all-result.new.device j c.report_all-result.result) c.in-Ok.ensures.judging
          (writes_weaker g.W.Write.contents _ _ _ _ _ _ _ c.report_all-result.result c.report_all-result.ensures (λ text code is. plain_report _ _ text code refl refl is)
          (λ part. plain_part c.in-Ok.judge c.report_all-result.new.judge c.judge_rest.new.judge _ _ _ refl refl c.judge_rest.ensures part));
    }

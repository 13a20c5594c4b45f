use Rattle.std.proofs.Common.{refl}
use Rattle.ca_report.proofs.InPieces.{sends_part, sends_later}
use Rattle.ca_verify_lines.proofs.finding.send_finding.Goals as goal

-- the answer's line was sent in part
pub returns-in-Err : goal.returns-in-Err
returns-in-Err g c = sends_part g.W.Write.contents _ _ _ _ _ _ _ c.answer_pieces.ensures c.in-Err.ensures

-- it was sent, and then the lines that explain it, or a part of them
pub returns-then-is_err : goal.returns-then-is_err
returns-then-is_err g c =
    sends_later g.W.Write.contents _ _ _ _ _ _ _ _ c.send_explanation.result c.answer_pieces.ensures refl c.in_default.ensures.all c.in_default.ensures.kept c.send_explanation.ensures

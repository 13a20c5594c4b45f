use Rattle.std.proofs.Common.{refl}
use Rattle.ca_report.proofs.InPieces.{sends_part, sends_later}
use Rattle.ca_report.proofs.pieces.send_both.Goals as goal

-- the first text was sent in part
pub returns-in-Err : goal.returns-in-Err
returns-in-Err g c = sends_part g.W.Write.contents _ _ _ _ _ _ _ refl c.in-Err.ensures

-- it was sent, and then the second one, or a part of it
pub returns : goal.returns
returns g c =
    sends_later g.W.Write.contents _ _ _ _ _ _ _ _ c.send_pieces-2.result refl refl c.in_default.ensures.all c.in_default.ensures.kept c.send_pieces-2.ensures

use Rattle.std.proofs.Common.{refl, arith}
use Rattle.ca_report.specs.Prelude.{piece_text}
use Rattle.ca_report.proofs.InPieces.{sends_at}
use Rattle.ca_report.proofs.pieces.send_pieces.Goals as goal

-- the pieces before were sent, and this one in part
pub returns-in-Err : goal.returns-in-Err
returns-in-Err g c =
    sends_at piece_text g.W.Write.contents _ _ _ c.args.pieces.now c.pieces.piece-index _ _ _ _ c.in-Err.fault (omega arith) refl refl
    c.pieces.invariant.sent c.pieces.invariant.kept c.in-Err.ensures

use Rattle.std.proofs.Common.{◌≡◌, take}
use Rattle.std.specs.Io.KnownBytes.{Appends}
use Rattle.ca_report.specs.Prelude.{pieces_text}
use Rattle.ca_report.proofs.pieces.send_pieces.Given as goal

-- the pieces so far were sent, and no write failed
abbrev pub invariant-pieces : goal.invariant-pieces
invariant-pieces g l = record {
  sent : Appends (g.W.Write.contents l.fn.device.inner) (g.W.Write.contents l.device.inner) (pieces_text (take l.piece-index l.pieces));
  kept : l.device.failures ≡ l.fn.device.failures;
}

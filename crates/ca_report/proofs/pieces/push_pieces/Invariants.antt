use Rattle.std.proofs.Common.{take}
use Rattle.ca_plane.specs.Prelude.{Puts}
use Rattle.ca_report.specs.Prelude.{pieces_text}
use Rattle.ca_report.proofs.pieces.push_pieces.Given as goal

-- the pieces so far were put
abbrev pub invariant-pieces : goal.invariant-pieces
invariant-pieces l = Puts l.fn.out.items l.out.items (pieces_text (take l.piece-index l.pieces))

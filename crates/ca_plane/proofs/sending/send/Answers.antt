use Rattle.std.proofs.Common.{◌++◌, take, ◌∙◌}
use Rattle.ca_plane.proofs.Sends.{sent_both, sent_more}
use Rattle.ca_plane.proofs.sending.send.Goals as goal

pub pieces-preserved : goal.pieces-preserved
pieces-preserved g c =
    let (sent, split, appended, kept) = c.pieces.invariant in
    let unsent = c.pieces.unsent.now in
    let n = c.in-Ok.count in
    (sent ++ take n unsent, sent_more _ sent unsent n split, sent_both _ _ _ _ _ appended c.in-Ok.ensures.bytes, c.in-Ok.ensures.kept ∙ kept)

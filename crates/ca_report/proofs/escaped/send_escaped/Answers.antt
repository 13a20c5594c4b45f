use Rattle.std.proofs.Common.{◌∙◌, ◌++◌, ap, sym, append_assoc}
use Rattle.ca_plane.proofs.Sends.{sent_both}
use Rattle.ca_report.specs.Prelude.{escaped}
use Rattle.ca_report.specs.inner.Parts.{part_text}
use Rattle.ca_report.proofs.Escaping.{sends_next}
use Rattle.ca_report.proofs.escaped.send_escaped.Goals as goal

-- the parts before were sent, and a part of this one
pub returns-in-Err : goal.returns-in-Err
returns-in-Err g c =
    let (front, whole, sent) = c.parts.invariant.sent in
    sends_next g.W.Write.contents _ _ _ _ front (part_text c.in-Some.part) (escaped c.in-Some.later.now) _ c.in-Err.fault
    (whole ∙ ap (λ l. front ++ l) c.in-Some.ensures.written) sent c.parts.invariant.kept c.in-Err.ensures

-- this one was sent too
pub parts-preserved : goal.parts-preserved
parts-preserved g c =
    let (front, whole, sent) = c.parts.invariant.sent in
    let part = part_text c.in-Some.part in
    let sends = c.in_default-send_part.ensures in
    record {
      kept = sends.kept ∙ c.parts.invariant.kept;
      sent = (
        front ++ part,
        whole ∙ ap (λ l. front ++ l) c.in-Some.ensures.written ∙ sym (append_assoc front part (escaped c.in-Some.later.now)),
        sent_both _ _ _ front part sent sends.all,
      );
    }

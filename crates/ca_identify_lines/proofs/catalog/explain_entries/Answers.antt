use Rattle.std.proofs.Common.{◌∙◌, refl, arith}
use Rattle.ca_identify_lines.specs.Prelude.{entry_explanation}
use Rattle.ca_report.proofs.InPieces.{sent_next, sends_at}
use Rattle.ca_identify_lines.proofs.catalog.explain_entries.Goals as goal

-- the lines on the entries before were sent, and then this one's
pub entries-preserved : goal.entries-preserved
entries-preserved g c = record {
  sent = sent_next (entry_explanation c.args.files.now) _ _ _ c.args.entries.now c.entries.entry-index _ c.entry-item.result _ (omega arith) c.entry-item.is refl c.entries.invariant.sent c.in_default.ensures.all;
  kept = c.in_default.ensures.kept ∙ c.entries.invariant.kept;
}

-- or this one's in part
pub returns-in-Err : goal.returns-in-Err
returns-in-Err g c =
    sends_at (entry_explanation c.args.files.now) g.W.Write.contents _ _ _ c.args.entries.now c.entries.entry-index _ c.entry-item.result _ _ c.in-Err.fault (omega arith) c.entry-item.is refl
    c.entries.invariant.sent c.entries.invariant.kept c.in-Err.ensures

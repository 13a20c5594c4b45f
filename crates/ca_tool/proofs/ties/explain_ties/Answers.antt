use Rattle.std.proofs.Common.{◌∙◌, refl, arith}
use Rattle.ca_tool.specs.Ties.{tie_line}
use Rattle.ca_report.proofs.InPieces.{sent_next, sends_at}
use Rattle.ca_tool.proofs.ties.explain_ties.Goals as goal

-- the lines on the tables before were sent, and then this one's
pub tables-preserved : goal.tables-preserved
tables-preserved g c = record {
  sent = sent_next tie_line _ _ _ c.args.tables.now c.tables.table-index _ c.table-item.result _ (omega arith) c.table-item.is refl c.tables.invariant.sent c.in_default.ensures.all;
  kept = c.in_default.ensures.kept ∙ c.tables.invariant.kept;
}

-- or this one's in part
pub returns-in-Err : goal.returns-in-Err
returns-in-Err g c =
    record {
      sends = sends_at tie_line g.W.Write.contents _ _ _ c.args.tables.now c.tables.table-index _ c.table-item.result _ _ c.in-Err.fault (omega arith) c.table-item.is refl
          c.tables.invariant.sent c.tables.invariant.kept c.in-Err.ensures;
    }

use Rattle.std.proofs.Common.{◌-◌, ◌≤◌}
use Rattle.ca_apgcode_search.proofs.RowBoxes.{AreMoved}
use Rattle.ca_apgcode_search.proofs.frame_box.box_of_rows.Given as goal

-- the columns so far
abbrev pub invariant-columns : goal.invariant-columns
invariant-columns l = record {
  from : l.first ≤ l.r;
  moved : AreMoved l.rows l.first l.low (l.r - l.first) l.columns.items;
}

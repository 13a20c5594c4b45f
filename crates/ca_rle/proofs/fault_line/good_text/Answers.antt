use Rattle.std.proofs.Common.{ap, unwrap_or}
use Rattle.ca_plane.specs.Prelude.{default_rule}
use Rattle.ca_rle.proofs.FaultAt.{body_fault_at}
use Rattle.ca_rle.proofs.TextJudgements.{file, is_file, too_far, same_corner, too_many, cell_count, box_near, file_bounds, within_limits}
use Rattle.ca_rle.proofs.fault_line.good_text.Goals as goal

pub in_text-requires-in-Err-measure : goal.in_text-requires-in-Err-measure
in_text-requires-in-Err-measure c =
    let front = c.in-Ok.ensures.found in
    let bad = c.in-Err-measure.ensures.fault in
    body_fault_at c.args.bytes.now front.0 front.1 _ bad.0 _ _ front.2 bad.1 bad.2

pub returns-then-not-is_in_range-clause-fault : goal.returns-then-not-is_in_range-clause-fault
returns-then-not-is_in_range-clause-fault c =
    let front = c.in-Ok.ensures.found in
    let found = c.in-Ok-measure.ensures.found in
    too_far c.args.bytes.now front.0 front.1 _ _ _ front.2 front.4 found.0 found.1 found.2 c.is_in_range.result c.is_in_range.ensures c.if-not-is_in_range.true

pub returns-then-extent-gt-MOST_CELLS-clause-fault : goal.returns-then-extent-gt-MOST_CELLS-clause-fault
returns-then-extent-gt-MOST_CELLS-clause-fault c =
    let front = c.in-Ok.ensures.found in
    let found = c.in-Ok-measure.ensures.found in
    too_many c.args.bytes.now front.0 front.1 _ _ _ front.2 front.4 found.0 found.1 found.2 (c.is_in_range.ensures.0 c.if-not-is_in_range.false) c.if-extent-gt-MOST_CELLS.true

pub bounds_of-requires-clause-near : goal.bounds_of-requires-clause-near
bounds_of-requires-clause-near c =
    let front = c.in-Ok.ensures.found in
    let found = c.in-Ok-measure.ensures.found in
    box_near c.args.bytes.now front.0 front.1 _ _ _ front.2 front.4 found.0 found.1 found.2 (c.is_in_range.ensures.0 c.if-not-is_in_range.false) found.3

pub returns-clause-found : goal.returns-clause-found
returns-clause-found c =
    let front = c.in-Ok.ensures.found in
    let found = c.in-Ok-measure.ensures.found in
    let bytes = c.args.bytes.now in
    let range = c.is_in_range.ensures.0 c.if-not-is_in_range.false in (
      file bytes front.0 front.1 _ _ _ front.2 front.4 found.0 found.1 found.2,
      record {
        is_file = is_file bytes front.0 front.1 _ _ _ front.2 front.4 found.0 found.1 found.2;
        within = within_limits bytes front.0 front.1 _ _ _ front.2 front.4 found.0 found.1 found.2 range c.if-extent-gt-MOST_CELLS.false;
        items = found.1;
        corner = same_corner bytes front.0 front.1 _ _ _ front.2 front.4 found.0 found.1 found.2 range;
        rule_text = ap (λ o. unwrap_or o default_rule) front.3;
        generation = front.5;
        greatest = found.2.greatest;
        bounds = file_bounds bytes front.0 front.1 _ _ _ front.2 front.4 found.0 found.1 found.2 range found.3 _ c.bounds_of.ensures;
        cells = cell_count bytes front.0 front.1 _ _ _ front.2 front.4 found.0 found.1 found.2 c.if-extent-gt-MOST_CELLS.false;
      },
    )

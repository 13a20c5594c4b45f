use Rattle.std.proofs.Common.{◌+◌, slice_index}
use Rattle.std.proofs.lemmas.Nat.Bits.{bit_at-lt}
use Rattle.ca_plane.specs.Prelude.{row_cells}
use Rattle.ca_bricks.specs.Prelude.{lives_next, next_by_count}
use Rattle.ca_bricks.proofs.NextStates.{told_decided, pair_told}
use Rattle.ca_bricks.proofs.kernel.with_pair.Goals as goal

pub returns : goal.returns
returns c = λ x y.
    let centre = row_cells c.args.alive.rows x y in
    let born = c.is_in-born.result in
    let stays = c.is_in-stays.result in
    let born_by_more = c.is_in-born_by_more.result in
    let stays_by_more = c.is_in-stays_by_more.result in
    pair_told (next_by_count c.args.birth c.args.survive centre) c.args.least (row_cells c.args.next.rows x y) (row_cells c.args.which.rows x y) (row_cells c.args.ones.rows x y)
    (row_cells c.and_not.result.rows x y) (row_cells c.and.result.rows x y) (lives_next born stays centre) (lives_next born_by_more stays_by_more centre)
    (row_cells c.with_count-next.result.rows x y) (row_cells c.with_count.result.rows x y)
    (bit_at-lt (slice_index c.args.which.rows y) x) (bit_at-lt (slice_index c.args.ones.rows y) x)
    (c.and_not.ensures x y) (c.and.ensures x y)
    (told_decided c.args.birth c.args.survive centre c.args.least born stays c.is_in-born.ensures c.is_in-stays.ensures)
    (told_decided c.args.birth c.args.survive centre (c.args.least + 1) born_by_more stays_by_more c.is_in-born_by_more.ensures c.is_in-stays_by_more.ensures)
    (c.with_count-next.ensures x y) (c.with_count.ensures x y)

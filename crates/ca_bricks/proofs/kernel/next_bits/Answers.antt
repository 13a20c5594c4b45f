use Rattle.std.proofs.Common.{slice_index, refl}
use Rattle.std.proofs.lemmas.Nat.Bits.{bit_at-lt}
use Rattle.ca_plane.specs.Prelude.{row_cells}
use Rattle.ca_bricks.specs.Prelude.{lives_next, next_by_count, number}
use Rattle.ca_bricks.proofs.NextStates.{told_decided, next_by_count-lt, all_told, few_told}
use Rattle.ca_bricks.proofs.kernel.next_bits.Goals as goal

pub returns-then-birth-survive-eq0 : goal.returns-then-birth-survive-eq0
returns-then-birth-survive-eq0 g c = λ x y h k most.
    let count = c.args.count in
    few_told c.args.birth c.args.survive (row_cells c.args.alive.rows x y)
    (row_cells count.ones.rows x y) (row_cells count.twos.rows x y) (row_cells count.fours.rows x y) (row_cells count.eights.rows x y) (number count x y)
    (bit_at-lt (slice_index count.ones.rows y) x) (bit_at-lt (slice_index count.twos.rows y) x) (bit_at-lt (slice_index count.fours.rows y) x) refl most
    c.if-birth-survive-eq0.true (row_cells c.all-none.result.rows x y) (row_cells c.and_not-two_or_three.result.rows x y) (row_cells c.with_pair-next.result.rows x y)
    (c.all-none.ensures x y h k) (c.and_not-two_or_three.ensures x y) (c.with_pair-next.ensures x y)

pub returns : goal.returns
returns g c = λ x y h k most.
    let count = c.args.count in
    let centre = row_cells c.args.alive.rows x y in
    all_told (next_by_count c.args.birth c.args.survive centre) (next_by_count-lt c.args.birth c.args.survive centre)
    (row_cells count.ones.rows x y) (row_cells count.twos.rows x y) (row_cells count.fours.rows x y) (row_cells count.eights.rows x y) (number count x y)
    (bit_at-lt (slice_index count.ones.rows y) x) (bit_at-lt (slice_index count.twos.rows y) x) (bit_at-lt (slice_index count.fours.rows y) x) refl most
    (row_cells c.all-none.result.rows x y) (row_cells c.all.result.rows x y) (row_cells c.or.result.rows x y) (row_cells c.or-2.result.rows x y)
    (row_cells c.and_not-two_or_three.result.rows x y) (row_cells c.and_not-none_or_one.result.rows x y) (row_cells c.and_not-four_or_five.result.rows x y) (row_cells c.and-six_or_seven.result.rows x y)
    (lives_next c.is_in.result c.is_in-2.result centre)
    (row_cells c.with_pair-next.result.rows x y) (row_cells c.with_pair-next-2.result.rows x y) (row_cells c.with_pair-next-3.result.rows x y)
    (row_cells c.with_pair-next-4.result.rows x y) (row_cells c.with_count.result.rows x y)
    (c.all-none.ensures x y h k) (c.all.ensures x y h k) (c.or.ensures x y) (c.or-2.ensures x y)
    (c.and_not-two_or_three.ensures x y) (c.and_not-none_or_one.ensures x y) (c.and_not-four_or_five.ensures x y) (c.and-six_or_seven.ensures x y)
    (told_decided c.args.birth c.args.survive centre 8 c.is_in.result c.is_in-2.result c.is_in.ensures c.is_in-2.ensures)
    (c.with_pair-next.ensures x y) (c.with_pair-next-2.ensures x y) (c.with_pair-next-3.ensures x y) (c.with_pair-next-4.ensures x y) (c.with_count.ensures x y)

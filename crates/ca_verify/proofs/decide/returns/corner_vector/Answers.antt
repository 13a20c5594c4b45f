use Rattle.ca_quad.specs.Prelude.{cell}
use Rattle.ca_pattern.proofs.Corners.{live_after, corners_moved, corner_wide}
use Rattle.ca_verify.proofs.Corners.{corner_shift}
use Rattle.ca_verify.proofs.Times.{shift_broad, broad_again, wide_again}
use Rattle.ca_pattern.proofs.Times.{distance_reads}
use Rattle.ca_verify.proofs.decide.returns.corner_vector.Goals as goal

pub unreachable-requires : goal.unreachable-requires
unreachable-requires c =
    let dead = rw c.in_default.is at c.in_ok-from.ensures in
    let live = c.requires.live in
    live.2 (dead live.0 live.1)

pub returns-in_default-2 : goal.returns-in_default-2
returns-in_default-2 c = λ dx dy is.
    let dead = rw c.in_default-2.is at c.in_ok-to.ensures in
    let live = c.requires.live in
    live_after (cell c.args.store.now c.args.pattern) (cell c.args.store.now c.args.end) dx dy is live.0 live.1 live.2 (dead _ _)

pub distance-requires-clause-from : goal.distance-requires-clause-from
distance-requires-clause-from c = broad_again c.in-Some.from.x0 (shift_broad _ (corner_shift _ c.in-Some.from (rw c.in-Some.is at c.in_ok-from.ensures) c.requires.pattern.range).0)

pub distance-requires-clause-to : goal.distance-requires-clause-to
distance-requires-clause-to c = wide_again c.in-Some-2.to.x0 (corner_wide _ c.in-Some-2.to (rw c.in-Some-2.is at c.in_ok-to.ensures) c.requires.end.near).0

pub distance-requires-2-clause-from : goal.distance-requires-2-clause-from
distance-requires-2-clause-from c = broad_again c.in-Some.from.y0 (shift_broad _ (corner_shift _ c.in-Some.from (rw c.in-Some.is at c.in_ok-from.ensures) c.requires.pattern.range).1)

pub distance-requires-2-clause-to : goal.distance-requires-2-clause-to
distance-requires-2-clause-to c = wide_again c.in-Some-2.to.y0 (corner_wide _ c.in-Some-2.to (rw c.in-Some-2.is at c.in_ok-to.ensures) c.requires.end.near).1

pub returns : goal.returns
returns c = λ dx dy is.
    let from = c.in-Some.from in
    let to = c.in-Some-2.to in
    let pattern = cell c.args.store.now c.args.pattern in
    let end = cell c.args.store.now c.args.end in
    let least = rw c.in-Some.is at c.in_ok-from.ensures in
    let least_end = rw c.in-Some-2.is at c.in_ok-to.ensures in
    let vector = (corners_moved pattern end dx dy is from to least least_end).0 in
    let shift = corner_shift pattern from least c.requires.pattern.range in
    let wide = corner_wide end to least_end c.requires.end.near in
    (distance_reads from.x0 to.x0 dx c.distance.result (shift_broad from.x0 shift.0) wide.0 c.distance.ensures vector.0, distance_reads from.y0 to.y0 dy c.distance-2.result (shift_broad from.y0 shift.1) wide.1 c.distance-2.ensures vector.1)

use Rattle.std.proofs.Common.{arith}
use Rattle.std.proofs.lemmas.Int.{ints}
use Rattle.ca_parts.specs.inner.Taking.{IsNear}
use Rattle.ca_parts.proofs.Taken.{rising_kept}
use Rattle.ca_parts.proofs.Stretches.{row_more, near_dark_more}
use Rattle.ca_parts.proofs.taking.take_near.Goals as goal

pub take_stretch-requires-clause-rising : goal.take_stretch-requires-clause-rising
take_stretch-requires-clause-rising c = rising_kept (IsNear c.args.reach c.args.at) c.args.left.now.items c.args.taken.now.items c.rows.left.items c.rows.taken.items c.rows.invariant.takes c.requires.rising

pub rows-preserved : goal.rows-preserved
rows-preserved c =
    let more = row_more c.args.reach c.args.at c.args.left.now.items c.args.taken.now.items c.rows.left.items c.rows.taken.items c.take_stretch.new.left.items c.take_stretch.new.taken.items _ _ _ c.rows.row c.in_ok-take_stretch.ensures
    (omega (arith, ints)) (omega (arith, ints)) (omega (arith, ints)) c.rows.invariant.takes (omega (arith, ints)) (omega (arith, ints)) in
    let dark = near_dark_more c.args.reach c.args.at c.args.left.now.items c.args.taken.now.items c.rows.left.items c.rows.taken.items c.take_stretch.new.left.items c.take_stretch.new.taken.items _ _ _ c.rows.row c.in_ok-take_stretch.ensures
    (omega (arith, ints)) (omega (arith, ints)) (omega (arith, ints)) in
    record {
      takes = more;
      low = omega (arith, ints);
      dark = λ x y near high. dark _ (omega (arith, ints)) (λ u v close less. c.rows.invariant.dark u v close (omega (arith, ints, less))) x y near high;
    }

pub returns : goal.returns
returns c = record { takes = c.rows.invariant.takes; none = λ x y near. c.rows.invariant.dark x y near (omega (arith, ints, near)) }

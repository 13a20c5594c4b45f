use Rattle.std.proofs.Common.{refl, arith}
use Rattle.std.proofs.lemmas.Int.{ints}
use Rattle.ca_rle.proofs.MergedRuns.{adds_on, adds_next}
use Rattle.ca_rle.proofs.write.again.place_next.Goals as goal

pub returns-clause-cells : goal.returns-clause-cells
returns-clause-cells c =
    adds_next c.args.states c.in_ok-filled.filled c.in_ok-filled-2.filled c.args.corner c.end.result _ c.args.out.now.items c.place_run.new.out.items c.place_gap.new.out.items c.args.pending _ c.args.next c.in_ok-filled.ensures c.in_ok-filled-2.ensures (omega (arith, ints))
    c.end.ensures.y c.end.ensures.x (c.if-goes_on.ensures.no refl) refl refl

pub returns-then-goes_on-clause-cells : goal.returns-then-goes_on-clause-cells
returns-then-goes_on-clause-cells c =
    let place = c.if-goes_on.ensures.yes refl in
    adds_on c.args.states c.args.corner c.args.out.now.items c.args.pending _ c.args.next place.0 place.1 place.2 refl (omega (arith, ints)) refl refl

use Rattle.std.proofs.Common.{arith}
use Rattle.std.proofs.lemmas.Int.{ints}
use Rattle.std.proofs.lemmas.Result.{IfOk-weaker}
use Rattle.ca_rle.specs.declared.item.Tag.TheVariants.{Cell}
use Rattle.ca_rle.specs.inner.Written.{some_of}
use Rattle.ca_rle.specs.inner.RunByRun.{Lays, LaysGap}
use Rattle.ca_rle.proofs.MergedRuns.{lays_in_row, lays_over_rows}
use Rattle.ca_rle.proofs.write.again.place_gap.Goals as goal

pub returns : goal.returns
returns c =
    let new = c.place_some-3.new.out.items in
    IfOk-weaker c.place_some-3.result (Lays c.args.states c.place_some-2.new.out.items c.in_ok-filled.filled (some_of (Cell 0) c.distance-2.result) new) (LaysGap c.args.states c.args.left c.args.from c.args.to c.args.out.now.items c.args.filled new)
    (λ n put. lays_over_rows c.args.states c.args.filled c.in_ok-filled.filled n c.distance-rows.result c.distance-2.result c.args.left c.args.from c.args.to _ _ _ (omega (arith, ints)) c.if-rows-eq0.false (omega (arith, ints)) c.in_ok-filled.ensures put) c.place_some-3.ensures

pub returns-then-rows-eq0 : goal.returns-then-rows-eq0
returns-then-rows-eq0 c =
    let new = c.place_some.new.out.items in
    IfOk-weaker c.place_some.result (Lays c.args.states c.args.out.now.items c.args.filled (some_of (Cell 0) c.distance.result) new) (LaysGap c.args.states c.args.left c.args.from c.args.to c.args.out.now.items c.args.filled new)
    (λ n put. lays_in_row c.args.states c.args.filled n c.distance-rows.result c.distance.result c.args.left c.args.from c.args.to _ _ (omega (arith, ints)) c.if-rows-eq0.true (omega (arith, ints)) put) c.place_some.ensures

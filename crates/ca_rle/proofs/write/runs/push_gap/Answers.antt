use Rattle.std.proofs.Common.{◌≡◌, ◌++◌, arith}
use Rattle.std.proofs.lemmas.Int.{ints}
use Rattle.std.proofs.lemmas.Result.{on_ok_weaker}
use Rattle.ca_rle.specs.declared.item.Tag.TheVariants.{Cell}
use Rattle.ca_rle.specs.inner.Written.{some_of}
use Rattle.ca_rle.proofs.Gaps.{PutsGap, gap-in_row, gap-over_rows}
use Rattle.ca_rle.proofs.write.runs.push_gap.Goals as goal

pub returns : goal.returns
returns c =
    on_ok_weaker {P = c.push_some-3.new.items.items ≡ c.push_some-2.new.items.items ++ some_of (Cell 0) c.distance-2.result} {Q = PutsGap c.args.left c.args.from c.args.to c.args.items.now.items c.push_some-3.new.items.items} c.push_some-3.result
    (λ put. gap-over_rows c.args.left c.args.from c.args.to _ _ _ c.distance-rows.result c.distance-2.result (omega (arith, ints)) c.if-rows-eq0.false (omega (arith, ints)) c.in_ok-push_some.ensures put) c.push_some-3.ensures

pub returns-then-rows-eq0 : goal.returns-then-rows-eq0
returns-then-rows-eq0 c =
    on_ok_weaker {P = c.push_some.new.items.items ≡ c.args.items.now.items ++ some_of (Cell 0) c.distance.result} {Q = PutsGap c.args.left c.args.from c.args.to c.args.items.now.items c.push_some.new.items.items} c.push_some.result
    (λ put. gap-in_row c.args.left c.args.from c.args.to _ _ c.distance-rows.result c.distance.result (omega (arith, ints)) c.if-rows-eq0.true (omega (arith, ints)) put) c.push_some.ensures

use Rattle.std.proofs.lemmas.Result.{IfOk-weaker}
use Rattle.ca_rle.specs.Prelude.{item_text}
use Rattle.ca_rle.specs.inner.Written.{some_of, IsPlaced}
use Rattle.ca_rle.specs.inner.RunByRun.{Lays}
use Rattle.ca_rle.proofs.Gaps.{item_of}
use Rattle.ca_rle.proofs.MergedRuns.{lays_some}
use Rattle.ca_rle.proofs.write.again.place_some.Goals as goal

pub returns : goal.returns
returns c =
    let old = c.args.out.now.items in
    let new = c.place_item.new.out.items in
    IfOk-weaker c.place_item.result (λ n. IsPlaced old c.args.filled (item_text c.args.states (item_of c.args.tag c.args.count)) new n) (Lays c.args.states old c.args.filled (some_of c.args.tag c.args.count) new)
    (λ n placed. lays_some c.args.states c.args.filled n c.args.count old new c.args.tag c.if-count-eq0.false placed c.place_item.ensures.short) c.place_item.ensures.placed

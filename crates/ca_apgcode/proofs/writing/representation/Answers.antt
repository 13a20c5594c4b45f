use Rattle.std.proofs.Common.{◌≡◌, length, arith}
use Rattle.ca_apgcode.specs.Prelude.{cell}
use Rattle.ca_apgcode.proofs.Strips.{BeginsStrips-none, BeginsStrips-more}
use Rattle.ca_apgcode.proofs.writing.representation.Goals as goal

pub strips-init : goal.strips-init
strips-init c = BeginsStrips-none (cell c.args.grid.now) c.new-text.result.items c.new-text.ensures.items

pub push_strip-requires : goal.push_strip-requires
push_strip-requires c = omega (arith, c.strips-test.true, c.div_ceil-count.ensures, c.height.ensures.most)

pub strips-preserved : goal.strips-preserved
strips-preserved c =
    BeginsStrips-more (cell c.args.grid.now) c.strips.strip c.strips.text.items c.push_joint.new.text.items c.push_strip.new.text.items c.in_ok-push_joint.ensures c.in_ok-push_strip.ensures c.strips.invariant

pub returns : goal.returns
returns c =
    let strips = c.strips.invariant.strips in
    let many : length strips ≡ c.strips.strip = c.strips.invariant.many in
    let count : c.strips.strip ≡ c.div_ceil-count.result = omega (arith, c.strips-test.false, c.strips.auto.strip-end) in
    record {
      strips = strips;
      count = omega (arith, many, count, c.div_ceil-count.ensures, c.height.ensures.height);
      each = λ i below. c.strips.invariant.each i (omega (arith, below, many));
      whole = c.strips.invariant.whole;
    }

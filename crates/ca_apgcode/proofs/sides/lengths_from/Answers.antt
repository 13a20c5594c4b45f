use Rattle.std.proofs.Common.{◌≡◌, ◌*◌, ◌≤◌, sym, ◌∙◌, arith}
use Rattle.ca_apgcode.specs.Prelude.{cell}
use Rattle.ca_apgcode.specs.inner.Sides.{seen_width}
use Rattle.ca_apgcode.proofs.Heights.{pow_most}
use Rattle.ca_apgcode.proofs.Lengths.{MeasuresStrips-none, MeasuresStrips-more, joint_length, whole_length}
use Rattle.ca_apgcode.proofs.SeenBoxes.{width_seen, height_seen}
use Rattle.ca_apgcode.proofs.sides.lengths_from.Goals as goal

pub strips-init : goal.strips-init
strips-init c = record {
  seen = λ seen is. MeasuresStrips-none (cell seen);
  mirrored = λ seen mirrored is other. MeasuresStrips-none (cell mirrored);
  few_seen = omega arith;
  few_mirrored = omega arith;
}

pub mask_length-requires : goal.mask_length-requires
mask_length-requires c =
    let width : seen_width c.args.side c.args.grid.now ≤ 40 = omega (arith, c.seen_width-width.ensures.width, c.seen_width-width.ensures.most) in
    omega (arith, c.strip_mask-mask.ensures.low, pow_most (seen_width c.args.side c.args.grid.now) 40 width)

pub strips-preserved : goal.strips-preserved
strips-preserved c = record {
  seen = λ seen is.
      MeasuresStrips-more (cell seen) c.strips.strip c.strips.seen c.joint_length-joint.result c.mask_length.result c.joint_length-joint.ensures
      (c.mask_length.ensures.length seen (5 * c.strips.strip) (c.strip_mask-mask.ensures.mask seen is)) (c.strips.invariant.seen seen is);
  mirrored = λ seen mirrored is other.
      MeasuresStrips-more (cell mirrored) c.strips.strip c.strips.mirrored c.joint_length-joint.result c.mirrored_length.result c.joint_length-joint.ensures
      (c.mirrored_length.ensures.length seen mirrored (5 * c.strips.strip) other (width_seen c.args.side c.args.grid.now seen is ∙ sym c.seen_width-width.ensures.width) (c.strip_mask-mask.ensures.mask seen is)) (c.strips.invariant.mirrored seen mirrored is other);
  few_seen = omega (arith, c.strips.invariant.few_seen, joint, c.mask_length.ensures.most);
  few_mirrored = omega (arith, c.strips.invariant.few_mirrored, joint, c.mirrored_length.ensures.most);
}
  where
    joint : c.joint_length-joint.result ≤ 1
    joint = (joint_length c.strips.strip c.joint_length-joint.result c.joint_length-joint.ensures).1

pub returns-clause-seen : goal.returns-clause-seen
returns-clause-seen c = λ seen is text represents.
    let height = height_seen c.args.side c.args.grid.now seen is in
    let count : c.strips.strip ≡ c.div_ceil-count.result = omega (arith, c.strips-test.false, c.strips.auto.strip-end) in
    whole_length (cell seen) seen.height c.strips.strip c.strips.seen text (omega (arith, count, c.div_ceil-count.ensures, c.seen_height.ensures.height, height)) (c.strips.invariant.seen seen is) represents

pub returns-clause-mirrored : goal.returns-clause-mirrored
returns-clause-mirrored c = λ seen mirrored is other text represents.
    let height = other.height ∙ height_seen c.args.side c.args.grid.now seen is in
    let count : c.strips.strip ≡ c.div_ceil-count.result = omega (arith, c.strips-test.false, c.strips.auto.strip-end) in
    whole_length (cell mirrored) mirrored.height c.strips.strip c.strips.mirrored text (omega (arith, count, c.div_ceil-count.ensures, c.seen_height.ensures.height, height)) (c.strips.invariant.mirrored seen mirrored is other) represents

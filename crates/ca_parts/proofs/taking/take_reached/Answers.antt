use Rattle.std.proofs.Common.{ℕ, ◌≡◌, ◌<◌, length, get_or, sym, ap, arith}
use Rattle.ca_plane.specs.declared.point.Point.{Point}
use Rattle.ca_plane.specs.Prelude.{cell}
use Rattle.ca_parts.specs.inner.Taking.{IsChained, IsNear}
use Rattle.ca_parts.proofs.Taken.{dark_kept}
use Rattle.ca_parts.proofs.Chains.{first_taken, first_gone, reached_more, spread_more, near_taken}
use Rattle.ca_parts.proofs.taking.take_reached.Goals as goal

pub steps-init : goal.steps-init
steps-init c = record {
  takes = first_taken c.args.reach c.args.at c.args.left.now.items c.new-taken.result.items c.take.new.left.items c.take.new.taken.items c.args.place c.requires.rising c.requires.within c.requires.live c.in_ok-take.ensures c.new-taken.ensures.items;
  start = first_gone c.args.reach c.args.at c.args.left.now.items c.new-taken.result.items c.take.new.left.items c.take.new.taken.items c.args.place c.requires.rising c.requires.within c.requires.live c.in_ok-take.ensures c.new-taken.ensures.items;
  spread = λ k d low. absurd (omega arith);
}

pub steps-preserved : goal.steps-preserved
steps-preserved c =
    let near = c.index.result.now.0 in
    let within : c.steps.next < length c.steps.taken.items = omega (arith, c.steps.taken.ok.0, c.len.ensures) in
    let is : (get_or c.steps.taken.items c.steps.next c.index.result.now).0 ≡ near = sym (ap (λ (e : Point × ℕ). e.0) c.index.ensures) in
    let all = c.in_ok-take_near.ensures in
    record {
      takes = reached_more c.args.reach c.args.at near c.args.left.now.items c.steps.left.items c.steps.taken.items c.take_near.new.left.items c.take_near.new.taken.items c.steps.next c.index.result.now c.steps.invariant.takes within is all;
      start = dark_kept (IsNear c.args.reach near) c.steps.left.items c.steps.taken.items c.take_near.new.left.items c.take_near.new.taken.items all.takes c.args.at.x c.args.at.y c.steps.invariant.start;
      spread = spread_more c.args.reach c.args.at near c.args.left.now.items c.steps.left.items c.steps.taken.items c.take_near.new.left.items c.take_near.new.taken.items c.steps.next c.index.result.now c.steps.invariant.takes within is all c.steps.invariant.spread;
    }

pub returns-clause-near : goal.returns-clause-near
returns-clause-near c = near_taken (IsChained c.args.reach (cell c.args.left.now.items) c.args.at) c.args.left.now.items c.steps.left.items c.steps.taken.items c.steps.invariant.takes c.requires.near

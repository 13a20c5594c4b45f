use Rattle.std.proofs.Common.{◌<◌, refl, sym, subst, ◌∙◌, arith, length, slice_index, []}
use Rattle.std.proofs.lemmas.List.{length-set, get_or-set_other}
use Rattle.ca_bricks.specs.Prelude.{HasNeighbours}
use Rattle.ca_bricks.specs.declared.cell_rule.CellRule.TheVariants.{ByCounting}
use Rattle.ca_bricks.proofs.BrickQueues.{grows_by_none, grows_again}
use Rattle.ca_bricks.proofs.BrickRounds.{next_of_round, next_more, same_where_unseen, same_again}
use Rattle.ca_bricks.proofs.step.step_by.Goals as goal

pub bricks-init : goal.bricks-init
bricks-init g c = record {
  next = λ t has done. c.requires.can_step.rest t has (λ k h e. done k (omega arith) h e);
  same = λ t _ _. record { cells = λ x y _ _. refl };
  grows = grows_by_none _ _ _;
  others = λ t _. refl;
  size = c.requires.can_step.size;
}

pub bricks-preserved : goal.bricks-preserved
bricks-preserved g c =
    let inv = c.bricks.invariant in
    let k = c.bricks.s-index in
    let now = c.args.now.now in
    let mid = c.bricks.old in
    let s = slice_index c.args.awake.now k in
    let rows = c.next-next.result in
    let inside : HasNeighbours c.args.across (length now) s = c.requires.can_step.inside k c.bricks-test.true in
    let long : s < length mid = omega (arith, inside.behind, inv.size) in
    record {
      next = next_more (ByCounting c.args.counting) c.args.across now mid c.args.awake.now k s (length now) rows long refl
          (next_of_round (ByCounting c.args.counting) c.args.across now s c.round_of.result rows c.round_of.ensures (λ x y. c.next-next.ensures c.args.counting x y c.of-cells.ensures c.requires.counted)) inv.next;
      same = λ t has not_in.
          same_again c.args.across _ mid _ t (inv.same t has (c.in_ok-wake_round.ensures.grows.not_in t not_in))
          (same_where_unseen c.args.across s mid rows long t (c.in_ok-wake_round.ensures.unseen t has not_in));
      grows = grows_again _ _ _ _ _ inv.grows c.in_ok-wake_round.ensures.grows;
      others = λ t not. get_or-set_other mid s t rows [] (λ e. not (subst (HasNeighbours c.args.across (length now)) (sym e) inside)) ∙ inv.others t not;
      size = length-set mid s rows ∙ inv.size;
    }

pub returns : goal.returns
returns g c = record {
  next = λ t has. c.bricks.invariant.next t has (λ k low high e. omega (arith, c.bricks-test.false, low, high));
  same = c.bricks.invariant.same;
  grows = c.bricks.invariant.grows;
  others = c.bricks.invariant.others;
}

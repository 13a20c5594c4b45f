use Rattle.std.proofs.Common.{◌≡◌, ◌+◌, ◌<◌, ◌≤◌, ◌^◌, [], ◌∷◌, ◌++◌, sym, subst, ◌∙◌, arith}
use Rattle.std.specs.Prelude.{ℤ}
use Rattle.std.proofs.lemmas.List.Elements.{All-push, All-same}
use Rattle.ca_plane.specs.Prelude.{liveness}
use Rattle.ca_quad.specs.Prelude.{cell}
use Rattle.ca_bricks.specs.Prelude.{dying_digit, GridShows}
use Rattle.ca_run.specs.inner.Frames.{IsOfFrame, IsNewGrid}
use Rattle.ca_run.proofs.FramedAgedGrids.{of_found, framed_aged_grid}
use Rattle.ca_run.proofs.GridBricks.{push_more, push_longer}
use Rattle.ca_run.proofs.bricks.aged.AgeingGridRule.grid_of.Goals as goal

pub digits-preserved : goal.digits-preserved
digits-preserved g c =
    let inv = c.digits.invariant in
    let frame = c.args.frame.now in
    let p = cell c.args.leaper.now.nodes c.args.tree.now in
    let states = c.args.self.now.states in
    let list = c.digits.dying.items in
    let new = c.push.new.self.items in
    let t = c.digits.digit in
    let grid = c.in-Some-2.grid in
    let items = c.in_ok-push.ensures.items in
    record {
      size = push_longer list new t grid items inv.size;
      of_frame =
          All-same (IsOfFrame frame) new (list ++ grid ∷ []) items
          (All-push (IsOfFrame frame) list grid inv.of_frame (of_found (IsOfFrame frame) c.in_ok-grid.field-0 grid c.in-Some-2.is c.in_ok-grid.ensures.place));
      shows = λ m framed k d h.
          let one : GridShows grid m (λ x y. dying_digit states t (p x y)) =
          of_found (λ w. GridShows w m (λ x y. dying_digit states t (p x y))) c.in_ok-grid.field-0 grid c.in-Some-2.is (c.in_ok-grid.ensures.shows m framed) in
          push_more (λ n w. GridShows w m (λ x y. dying_digit states n (p x y))) list new t grid d items inv.size (λ n i. inv.shows m framed n d i) one k h;
    }

pub returns-clause-shows : goal.returns-clause-shows
returns-clause-shows g c = λ m framed.
    let inv = c.digits.invariant in
    let frame = c.args.frame.now in
    let tree = c.args.tree.now in
    let p = cell c.args.leaper.now.nodes tree in
    let states = c.args.self.now.states in
    let most = c.in_ok-greatest_state.field-0 in
    let all : c.digits.digit ≡ c.digit_count-digit-end.result = omega (arith, c.digits-test.false, c.digits.auto.digit-end) in
    let greatest = subst (λ n. (x y : ℤ) → cell n tree x y ≤ most) c.store.ensures.nodes c.in_ok-greatest_state.ensures.most in
    framed_aged_grid _ frame m p c.requires.rule.least c.requires.rule.most (λ x y. omega (arith, greatest x y, c.from.ensures, c.if-from-states.false))
    (subst (λ n. c.args.self.now.states < 2 + 2 ^ n) (sym (inv.size ∙ all)) c.digit_count-digit-end.ensures.enough)
    (of_found (IsOfFrame frame) c.in_ok-live.field-0 c.in-Some.live c.in-Some.is c.in_ok-live.ensures.place) inv.of_frame framed
    (of_found (λ w. GridShows w m (λ x y. liveness (p x y))) c.in_ok-live.field-0 c.in-Some.live c.in-Some.is (c.in_ok-live.ensures.shows m framed))
    (λ k d h. inv.shows m framed k d (omega (arith, inv.size, h)))

pub returns-clause-fresh : goal.returns-clause-fresh
returns-clause-fresh g c = of_found IsNewGrid c.in_ok-live.field-0 c.in-Some.live c.in-Some.is c.in_ok-live.ensures.fresh

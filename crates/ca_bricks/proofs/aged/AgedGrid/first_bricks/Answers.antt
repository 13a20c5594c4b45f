use Rattle.std.proofs.Common.{◌≡◌, ◌<◌, inl, inr, sym, subst, ap, ◌∙◌, arith, length, get_or, []}
use Rattle.std.proofs.lemmas.Bool.{cases_eq}
use Rattle.std.proofs.lemmas.List.{get_or_default}
use Rattle.ca_bricks.specs.declared.grid.BrickGrid.{BrickGrid}
use Rattle.ca_bricks.specs.Prelude.{HasBlankEdge, HasNeighbours, IsBlank, QueueGrows}
use Rattle.ca_bricks.proofs.BrickQueues.{grows_again}
use Rattle.ca_bricks.proofs.aged.AgedGrid.first_bricks.Goals as goal

pub wake_seen-requires-clause-edge : goal.wake_seen-requires-clause-edge
wake_seen-requires-clause-edge c = subst (HasBlankEdge c.args.self.now.live.across) (sym c.deref.ensures.value) (λ t not. (c.requires.edge t not).live)

pub digits-preserved : goal.digits-preserved
digits-preserved c =
    let inv = c.digits.invariant in
    let grid = c.args.self.now in
    let k = c.digits.k in
    let w = c.index.result.now in
    let woken = c.in_ok-wake_own.ensures in
    let long : k < length grid.dying.items = omega (arith, c.digits-test.true, c.len-k-end.ensures, grid.dying.ok.0) in
    let size : length c.deref-in-digits.result.now ≡ length grid.live.bricks.items
    = ap length c.deref-in-digits.ensures.value ∙ ap (λ (v : BrickGrid). length v.bricks.items) c.index.ensures ∙ (c.requires.beside k w long).size in
    let grows = subst (λ n. QueueGrows grid.live.across n c.digits.queue c.wake_own.new.queue) size woken.grows in
    record {
      grows = grows_again _ _ _ _ _ inv.grows grows;
      live = λ t has not_in. inv.live t has (grows.not_in t not_in);
      dying = λ t has not_in j d low. elim (cases_eq j k) [
        | inl here ↦
            let same : c.deref-in-digits.result.now ≡ (get_or grid.dying.items j d).bricks.items
            = c.deref-in-digits.ensures.value ∙ ap (λ (v : BrickGrid). v.bricks.items) (c.index.ensures ∙ get_or_default grid.dying.items k w d long ∙ ap (λ n. get_or grid.dying.items n d) (sym here)) in
            subst (λ l. IsBlank (get_or l t [])) same (woken.others t (subst (λ n. HasNeighbours grid.live.across n t) (sym size) has) not_in)
        | inr other ↦ inv.dying t has (grows.not_in t not_in) j d (omega (arith, low, other))
      ];
    }

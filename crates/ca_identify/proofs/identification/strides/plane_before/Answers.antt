use Rattle.std.proofs.Common.{◌≡◌, ◌-◌, Some, slice_get, inl, inr, refl, sym, subst, ◌∙◌, arith}
use Rattle.std.proofs.lemmas.Option.{same_Some, slice_get_read}
use Rattle.ca_quad.specs.Prelude.{cell}
use Rattle.ca_plane.proofs.Numbers.{below_or_not}
use Rattle.ca_quad.proofs.Trims.{trees_stay}
use Rattle.ca_run.proofs.LeaperGrowth.{goes_on_again}
use Rattle.ca_identify.specs.declared.identification.stage.First.{First}
use Rattle.ca_identify.specs.inner.Stages.{IsStage, AreMovedNowhere}
use Rattle.ca_pattern.proofs.LeaptTrees.{near_stays}
use Rattle.ca_identify.proofs.Stages.{first_stays}
use Rattle.ca_pattern.specs.Prelude.{HasLive}
use Rattle.ca_identify.proofs.Strides.{nowhere_as, moved_as, not_back}
use Rattle.ca_identify.proofs.identification.strides.plane_before.Goals as goal

pub stage_of-requires-clause-first : goal.stage_of-requires-clause-first
stage_of-requires-clause-first g c =
    let plane = c.index-early-index.result in
    let within = c.planes.invariant.within in
    let at = slice_get_read c.args.early.now _ (c.planes.left - 1) plane refl (omega (arith, c.planes-test.true, within)) c.index-early-index.is in
    first_stays c.args.leaper.now.nodes c.planes.leaper.nodes c.store.ensures.sound c.planes.invariant.goes_on.grows plane (c.requires.early (c.planes.left - 1) plane at)

pub stage_of-requires-clause-now : goal.stage_of-requires-clause-now
stage_of-requires-clause-now g c = near_stays c.args.leaper.now.nodes c.planes.leaper.nodes c.store.ensures.sound c.planes.invariant.goes_on.grows c.args.later.now c.requires.later

pub returns-in-Back-clause-before : goal.returns-in-Back-clause-before
returns-in-Back-clause-before g c =
    let s0 = c.args.leaper.now.nodes in
    let s = c.planes.leaper.nodes in
    let plane = c.index-early-index.result in
    let later = c.args.later.now in
    let within = c.planes.invariant.within in
    let at = slice_get_read c.args.early.now _ (c.planes.left - 1) plane refl (omega (arith, c.planes-test.true, within)) c.index-early-index.is in
    let grows = c.planes.invariant.goes_on.grows in
    let told = subst (IsStage (cell s plane.tree) (cell s later)) c.in-Back.is c.in_ok-stage.ensures.stage in (
      (
        plane,
        at,
        c.in-Back.dx,
        c.in-Back.dy,
        moved_as (cell s plane.tree) (cell s later) (cell s0 plane.tree) (cell s0 later)
            (trees_stay s0 s c.store.ensures.sound grows plane.tree (c.requires.early (c.planes.left - 1) plane at).start.is_tree)
            (trees_stay s0 s c.store.ensures.sound grows later c.requires.later.is_tree) _ _ told,
      ),
      λ j other above there. c.planes.invariant.nowhere j other (omega (arith, above)) there,
    )

pub planes-preserved : goal.planes-preserved
planes-preserved g c =
    let s0 = c.args.leaper.now.nodes in
    let s = c.planes.leaper.nodes in
    let inv = c.planes.invariant in
    let here = c.index-early-index.result in
    let later = c.args.later.now in
    let within = inv.within in
    let there = slice_get_read c.args.early.now _ (c.planes.left - 1) here refl (omega (arith, c.planes-test.true, within)) c.index-early-index.is in
    let lives = c.requires.live in
    let live : HasLive (cell s later) = (lives.0, lives.1, λ none. lives.2 (sym (trees_stay s0 s c.store.ensures.sound inv.goes_on.grows later c.requires.later.is_tree lives.0 lives.1) ∙ none)) in
    let told = not_back (cell s here.tree) (cell s later) _ c.in_ok-stage.ensures.stage live c.in_default.not-Back in
    let nowhere = nowhere_as (cell s here.tree) (cell s later) (cell s0 here.tree) (cell s0 later)
    (trees_stay s0 s c.store.ensures.sound inv.goes_on.grows here.tree (c.requires.early (c.planes.left - 1) here there).start.is_tree) (trees_stay s0 s c.store.ensures.sound inv.goes_on.grows later c.requires.later.is_tree) told in
    record {
      goes_on = goes_on_again _ c.args.leaper.now c.planes.leaper c.stage_of.new.leaper inv.goes_on c.in_ok-stage.ensures.goes_on;
      spent = c.in_ok-stage.ensures.spent ∙ inv.spent;
      boxes = c.in_ok-stage.ensures.boxes;
      within = omega (arith, within);
      nowhere = λ k plane from at.
          elim (below_or_not k c.planes.left) [
            | inr after ↦ inv.nowhere k plane after at
            | inl less ↦
                let same : k ≡ c.planes.left - 1 = omega (arith, less, from) in
                let one = same_Some here plane (sym there ∙ subst (λ i. slice_get c.args.early.now i ≡ Some plane) same at) in
                subst (λ (f : First). AreMovedNowhere (cell s0 f.tree) (cell s0 later)) one nowhere
          ];
    }

pub returns-clause-before : goal.returns-clause-before
returns-clause-before g c = λ k plane at. c.planes.invariant.nowhere k plane (omega (arith, c.planes-test.false)) at

use Rattle.std.proofs.Common.{◌≡◌, List, ◌+◌, ◌++◌, ◌∷◌, [], length, sym, ap, subst, ◌∙◌, arith, length-append}
use Rattle.std.proofs.lemmas.Option.{none-some}
use Rattle.std.specs.Prelude.{slice_get, Some}
use Rattle.ca_quad.specs.declared.tree.Tree.{Tree}
use Rattle.ca_quad.specs.Prelude.{AreSquareBoxes, cell, IsTree, IsTrimmed}
use Rattle.ca_quad.proofs.Measures.{boxes_stay}
use Rattle.ca_run.proofs.LeaperGrowth.{goes_on_same, goes_on_again}
use Rattle.ca_identify.specs.declared.identification.stage.First.{First}
use Rattle.ca_identify.specs.inner.Stages.{IsFirst, AreEarly}
use Rattle.ca_evolution.specs.Prelude.{CanGoOn}
use Rattle.ca_pattern.specs.Prelude.{IsLaterTree}
use Rattle.ca_evolution.proofs.Steps.{first_tree, later_next, near_next}
use Rattle.ca_identify.proofs.Strides.{one_more_early, early_stays}
use Rattle.ca_identify.proofs.identification.early.early_planes.Goals as goal

pub generations-init : goal.generations-init
generations-init g c =
    let next = g.A.Automaton.next_of c.args.leaper.now.rule in
    let s0 = c.args.leaper.now.nodes in
    let tree = c.args.first.now.tree in
    let none = c.new-planes.ensures.items in
    record {
      goes_on = goes_on_same _ c.args.leaper.now c.requires.first.sound;
      now = subst (λ (l : List First). IsLaterTree next (cell s0 tree) (length l) s0 tree) (sym none) (first_tree next s0 tree c.requires.first.is_first.start);
      early = λ k plane at. absurd (none-some plane (subst (λ (l : List First). slice_get l k ≡ Some plane) none at));
      boxes = c.new-boxes.ensures _;
      bounded = omega arith;
    }

pub near_plane-requires-clause-tree : goal.near_plane-requires-clause-tree
near_plane-requires-clause-tree g c = subst (λ s. IsTree s c.generations.now) (sym c.store.ensures.nodes) c.generations.invariant.now.near.is_tree

pub near_plane-requires-clause-trimmed : goal.near_plane-requires-clause-trimmed
near_plane-requires-clause-trimmed g c = subst (λ s. IsTrimmed s c.generations.now) (sym c.store.ensures.nodes) c.generations.invariant.now.trimmed

pub near_plane-requires-clause-boxes : goal.near_plane-requires-clause-boxes
near_plane-requires-clause-boxes g c = subst (λ s. AreSquareBoxes s c.generations.boxes) (sym c.store.ensures.nodes) c.generations.invariant.boxes

pub later_within-requires : goal.later_within-requires
later_within-requires g c =
    let inv = c.generations.invariant in
    let s = c.generations.leaper.nodes in
    let now = inv.now in
    subst (λ r. CanGoOn (g.A.Automaton.next_of r) s c.generations.now 1) (sym inv.goes_on.rule)
    (record {
      is_tree = now.near.is_tree;
      low = now.low;
      trimmed = now.trimmed;
      few = omega arith;
      near = near_next (g.A.Automaton.next_of c.args.leaper.now.rule) (cell c.args.leaper.now.nodes c.args.first.now.tree) (length c.generations.planes.items) s c.generations.now now
          c.requires.first.quiet c.requires.first.is_first.start.within (omega (arith, c.generations-test.true, c.len.ensures, c.requires.first.most));
    })

pub generations-preserved : goal.generations-preserved
generations-preserved g c =
    let inv = c.generations.invariant in
    let next = g.A.Automaton.next_of in
    let rule = c.args.leaper.now.rule in
    let first = cell c.args.leaper.now.nodes c.args.first.now.tree in
    let s = c.generations.leaper.nodes in
    let new = c.later_within.new.leaper.nodes in
    let planes = c.generations.planes.items in
    let plane = c.in-Some.plane in
    let n = length planes in
    let on = c.in_ok-tree.ensures.goes_on in
    let pushed = c.in_ok-push_plane.ensures in
    let tree = rw c.in-Some.is at c.in_ok-plane.ensures.tree in
    let is_first = rw c.in-Some.is at c.in_ok-plane.ensures.first in
    let more : length (planes ++ plane ∷ []) ≡ n + 1 = length-append planes (plane ∷ []) in
    let later = later_next (next rule) first n s c.generations.now inv.now new c.in_ok-tree.tree
    (subst (λ r. IsLaterTree (next r) (cell s c.generations.now) 1 new c.in_ok-tree.tree) inv.goes_on.rule c.in_ok-tree.ensures.later) in
    let early = early_stays (next rule) first s new inv.goes_on.grows.sound on.grows (planes ++ plane ∷ [])
    (one_more_early (next rule) first s planes plane inv.early (record {
      is_first = subst (λ t. IsFirst t plane) c.store.ensures.nodes is_first;
      shows = λ x y. ap (λ (t : Tree). cell s t x y) tree ∙ inv.now.shows x y;
    })) in
    record {
      goes_on = goes_on_again _ _ _ _ inv.goes_on on;
      now = subst (λ (l : List First). IsLaterTree (next rule) first (length l) new c.in_ok-tree.tree) (sym pushed) (subst (λ k. IsLaterTree (next rule) first k new c.in_ok-tree.tree) (sym more) later);
      early = subst (λ (l : List First). AreEarly (next rule) first new l) (sym pushed) early;
      boxes = boxes_stay s new inv.goes_on.grows.sound on.grows _ (subst (λ t. AreSquareBoxes t c.near_plane.new.boxes) c.store.ensures.nodes c.in_ok-plane.ensures.boxes);
      bounded = let bounded = inv.bounded in omega (arith, bounded, c.in_ok-tree.ensures.bounded);
    }

pub returns-in_err-push_plane-clause-goes_on : goal.returns-in_err-push_plane-clause-goes_on
returns-in_err-push_plane-clause-goes_on g c =
    goes_on_again _ _ _ _ c.generations.invariant.goes_on c.in_ok-tree.ensures.goes_on

pub returns-in_err-tree-clause-goes_on : goal.returns-in_err-tree-clause-goes_on
returns-in_err-tree-clause-goes_on g c = goes_on_again _ _ _ _ c.generations.invariant.goes_on c.in_err-tree.ensures.goes_on

use Rattle.std.proofs.Common.{◌≡◌, ◌+◌, Some, sym, subst, arith}
use Rattle.ca_plane.specs.Prelude.{cells_after}
use Rattle.ca_quad.specs.Prelude.{AreSquareBoxes, cell}
use Rattle.ca_plane.proofs.After.{after_again}
use Rattle.ca_apgcode.specs.Prelude.{IsBoxRound, IsLeastOfPhases}
use Rattle.ca_apgcode.proofs.PhaseTexts.{least_none}
use Rattle.ca_apgcode.proofs.PlaneBoxes.{box_as}
use Rattle.ca_pattern.specs.Prelude.{IsNearTree}
use Rattle.ca_apgcode_search.proofs.FrameShows.{two_after}
use Rattle.ca_apgcode_search.proofs.small.least_of_small.Goals as goal

pub box_round-requires-clause-tree : goal.box_round-requires-clause-tree
box_round-requires-clause-tree g c = subst (λ s. IsNearTree s c.args.tree.now) (sym c.store.ensures.nodes) c.requires.tree

pub box_round-requires-clause-boxes : goal.box_round-requires-clause-boxes
box_round-requires-clause-boxes g c = subst (λ s. AreSquareBoxes s c.args.boxes.now) (sym c.store.ensures.nodes) c.requires.boxes

pub phases-init : goal.phases-init
phases-init g c =
    let nodes = c.args.leaper.now.nodes in
    let tree = c.args.tree.now in
    record {
      found = λ next by quiet two.
          let p = cell nodes tree in
          let box = subst (λ s. IsBoxRound (cell s tree) c.in-Some.first) c.store.ensures.nodes (rw c.in-Some.is at c.in_ok-first.ensures.grid) in
          (box, c.in_ok-least.ensures (cells_after next p) 0 box (least_none (cells_after next p)));
    }

pub phases-preserved : goal.phases-preserved
phases-preserved g c =
    let inv = c.phases.invariant in
    record {
      found = λ next by quiet two.
          let p = cell c.args.leaper.now.nodes c.args.tree.now in
          let n = c.phases.n in
          let before = inv.found next by quiet two in
          let later = rw c.in-Some-2.is at (c.in_ok-later.ensures next (cells_after next p n) by quiet (two_after next c.args.counting by p two n) before.0) in
          let box = box_as (cells_after next (cells_after next p n) 1) (cells_after next p (n + 1)) c.in-Some-2.later (after_again next p n 1) later in
          (box, c.in_ok-least-2.ensures (cells_after next p) (n + 1) box before.1);
    }

pub returns-clause-least : goal.returns-clause-least
returns-clause-least g c = λ next by quiet two.
    let p = cell c.args.leaper.now.nodes c.args.tree.now in
    let all : c.phases.n + 1 ≡ c.args.count = omega (arith, c.requires.some, c.phases-test.false, c.phases.auto.n-end) in
    subst (λ k. IsLeastOfPhases (cells_after next p) k (Some c.phases.least.items)) all (c.phases.invariant.found next by quiet two).1

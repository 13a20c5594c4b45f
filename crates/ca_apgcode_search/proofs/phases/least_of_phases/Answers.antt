use Rattle.std.proofs.Common.{◌≡◌, ℕ, ◌+◌, ◌-◌, Vec, Global, refl, sym, ap, subst, ◌∙◌, arith}
use Rattle.std.specs.Prelude.{option_map}
use Rattle.ca_plane.specs.Prelude.{cells_after}
use Rattle.ca_quad.specs.Prelude.{AreSquareBoxes, cell}
use Rattle.ca_quad.proofs.Measures.{boxes_stay}
use Rattle.ca_run.proofs.LeaperGrowth.{goes_on_same, goes_on_again}
use Rattle.ca_apgcode.specs.Prelude.{IsLeastOfPhases}
use Rattle.ca_apgcode.proofs.PhaseTexts.{least_none}
use Rattle.ca_evolution.specs.Prelude.{CanGoOn}
use Rattle.ca_evolution.proofs.Steps.{first_tree, later_next, near_next, no_step, one_more_step, fewer_steps}
use Rattle.ca_pattern.specs.Prelude.{IsNearTree, IsLaterTree}
use Rattle.ca_pattern.proofs.Starts.{near_start}
use Rattle.ca_apgcode_search.proofs.phases.least_of_phases.Goals as goal

pub least_up_to-requires-clause-tree : goal.least_up_to-requires-clause-tree
least_up_to-requires-clause-tree g c = subst (λ s. IsNearTree s c.args.pattern.now) (sym c.store-2.ensures.nodes) (near_start c.args.leaper.now.nodes c.args.pattern.now c.requires.pattern)

pub phases-init : goal.phases-init
phases-init g c =
    let next = g.A.Automaton.next_of c.args.leaper.now.rule in
    let s0 = c.args.leaper.now.nodes in
    let tree = c.args.pattern.now in
    record {
      goes_on = goes_on_same _ c.args.leaper.now c.store.ensures.sound;
      now = first_tree next s0 tree c.requires.pattern;
      least = c.in_ok-least.ensures.least (cells_after next (cell s0 tree)) 0 (λ x y. ap (λ s. cell s tree x y) c.store-2.ensures.nodes) (least_none (cells_after next (cell s0 tree)));
      boxes = subst (λ s. AreSquareBoxes s c.least_up_to.new.boxes) c.store-2.ensures.nodes c.in_ok-least.ensures.boxes;
      takes = no_step _ _ (cells_after next (cell s0 tree)) (c.args.count - 1) 0 refl;
    }

pub later_tree-requires : goal.later_tree-requires
later_tree-requires g c =
    let inv = c.phases.invariant in
    let s = c.phases.leaper.nodes in
    let now = inv.now in
    subst (λ r. CanGoOn (g.A.Automaton.next_of r) s c.phases.now 1) (sym inv.goes_on.rule)
    (record {
      is_tree = now.near.is_tree;
      low = now.low;
      trimmed = now.trimmed;
      few = omega arith;
      near = near_next (g.A.Automaton.next_of c.args.leaper.now.rule) (cell c.args.leaper.now.nodes c.args.pattern.now) c.phases.n s c.phases.now now
          (g.met.A.Automaton.quiet c.args.leaper.now.rule c.store.ensures.rule) c.requires.pattern.within (omega (arith, c.phases-test.true, c.requires.most));
    })

pub least_up_to-requires-in-phases-clause-boxes : goal.least_up_to-requires-in-phases-clause-boxes
least_up_to-requires-in-phases-clause-boxes g c =
    let inv = c.phases.invariant in
    subst (λ s. AreSquareBoxes s c.phases.boxes) (sym c.store-in-phases.ensures.nodes) (boxes_stay c.phases.leaper.nodes c.later_tree.new.leaper.nodes inv.goes_on.grows.sound c.in_ok-now.ensures.goes_on.grows _ inv.boxes)

pub phases-preserved : goal.phases-preserved
phases-preserved g c =
    let inv = c.phases.invariant in
    let next = g.A.Automaton.next_of in
    let rule = c.args.leaper.now.rule in
    let first = cell c.args.leaper.now.nodes c.args.pattern.now in
    let s = c.phases.leaper.nodes in
    let new = c.later_tree.new.leaper.nodes in
    let on = c.in_ok-now.ensures.goes_on in
    let tree = c.in_ok-now.now in
    let here = c.store-in-phases.ensures.nodes in
    let later = later_next (next rule) first c.phases.n s c.phases.now inv.now new tree (subst (λ r. IsLaterTree (next r) (cell s c.phases.now) 1 new tree) inv.goes_on.rule c.in_ok-now.ensures.later) in
    record {
      goes_on = goes_on_again _ c.args.leaper.now c.phases.leaper c.later_tree.new.leaper inv.goes_on on;
      now = later;
      least = c.in_ok-least-2.ensures.least (cells_after (next rule) first) (c.phases.n + 1) (λ x y. ap (λ l. cell l tree x y) here ∙ later.shows x y) inv.least;
      boxes = subst (λ l. AreSquareBoxes l c.least_up_to-in-phases.new.boxes) here c.in_ok-least-2.ensures.boxes;
      takes = one_more_step _ _ _ (cells_after (next rule) first) (c.args.count - 1) c.phases.n c.phases.n s c.phases.now inv.now.trimmed inv.now.shows (omega (arith, c.phases-test.true)) inv.takes
          (c.in_ok-now.ensures.one refl);
    }

pub returns-clause-least : goal.returns-clause-least
returns-clause-least g c =
    let all : c.phases.n + 1 ≡ c.args.count = omega (arith, c.requires.some, c.phases-test.false, c.phases.auto.n-end) in
    subst (λ k. IsLeastOfPhases (cells_after (g.A.Automaton.next_of c.args.leaper.now.rule) (cell c.args.leaper.now.nodes c.args.pattern.now)) k (option_map (λ (text : Vec ℕ Global). text.items) c.phases.least)) all c.phases.invariant.least

pub returns-in_err-least-clause-takes : goal.returns-in_err-least-clause-takes
returns-in_err-least-clause-takes g c = no_step _ _ (cells_after (g.A.Automaton.next_of c.args.leaper.now.rule) (cell c.args.leaper.now.nodes c.args.pattern.now)) (c.args.count - 1) (c.args.count - 1) refl

pub returns-in_err-now-clause-takes : goal.returns-in_err-now-clause-takes
returns-in_err-now-clause-takes g c =
    let inv = c.phases.invariant in
    let stages = cells_after (g.A.Automaton.next_of c.args.leaper.now.rule) (cell c.args.leaper.now.nodes c.args.pattern.now) in
    fewer_steps _ _ stages (c.args.count - 1) (c.phases.n + 1) (c.args.count - 1) (omega (arith, c.phases-test.true))
    (one_more_step _ _ _ stages (c.args.count - 1) c.phases.n c.phases.n c.phases.leaper.nodes c.phases.now inv.now.trimmed inv.now.shows (omega (arith, c.phases-test.true)) inv.takes
    (c.later_tree.ensures.one refl))

pub returns-in_err-least-2-clause-takes : goal.returns-in_err-least-2-clause-takes
returns-in_err-least-2-clause-takes g c =
    let inv = c.phases.invariant in
    let stages = cells_after (g.A.Automaton.next_of c.args.leaper.now.rule) (cell c.args.leaper.now.nodes c.args.pattern.now) in
    fewer_steps _ _ stages (c.args.count - 1) (c.phases.n + 1) (c.args.count - 1) (omega (arith, c.phases-test.true))
    (one_more_step _ _ _ stages (c.args.count - 1) c.phases.n c.phases.n c.phases.leaper.nodes c.phases.now inv.now.trimmed inv.now.shows (omega (arith, c.phases-test.true)) inv.takes
    (c.in_ok-now.ensures.one refl))

pub returns-clause-takes : goal.returns-clause-takes
returns-clause-takes g c =
    fewer_steps _ _ (cells_after (g.A.Automaton.next_of c.args.leaper.now.rule) (cell c.args.leaper.now.nodes c.args.pattern.now)) (c.args.count - 1) c.phases.n (c.args.count - 1)
    (omega (arith, c.phases.auto.n-end)) c.phases.invariant.takes

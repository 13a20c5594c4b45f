use Rattle.std.proofs.Common.{◌≡◌, List, IfOk, IfSome, sym, subst, arith}
use Rattle.ca_plane.specs.Prelude.{Picture, cell, cells_after, after}
use Rattle.ca_parts.specs.Prelude.{Course}
use Rattle.ca_steps.proofs.OutOfReach.{after_one_more}
use Rattle.ca_clusters.specs.Clusters.{AreClusters}
use Rattle.ca_clusters.proofs.SweptRegions.{AreClusters-same}
use Rattle.ca_clusters.proofs.region.settled_region.Goals as goal

pub returns-in-Ok-clause-region : goal.returns-in-Ok-clause-region
returns-in-Ok-clause-region g c =
    let next = g.A.Automaton.next_of c.args.rule.now in
    let n = c.generations.n in
    let inv = c.generations.invariant in
    let quiet = g.met.A.Automaton.quiet c.args.rule.now c.states-states.ensures.sound in
    let later : AreClusters next (after next c.args.cells n) c.in-Ok.later.items =
    AreClusters-same next (cell c.generations.now) (after next c.args.cells n) c.in-Ok.later.items (λ x y. sym (inv.stepped.after x y)) c.in-Ok.ensures.clusters in
    c.region_before.ensures.region next quiet
    (subst (λ (cells : Picture). AreClusters next (cells_after next (cell cells) n) c.deref.result.now) (sym inv.cells)
    (subst (λ (courses : List Course). AreClusters next (after next c.args.cells n) courses) (sym c.deref.ensures.value) later))

pub returns-in-Ok-clause-cells : goal.returns-in-Ok-clause-cells
returns-in-Ok-clause-cells g c = subst (λ (cells : Picture). IfOk c.region_before.result (λ found. IfSome found (λ region. region.cells ≡ cells))) c.generations.invariant.cells c.region_before.ensures.cells

pub generations-preserved : goal.generations-preserved
generations-preserved g c =
    let inv = c.generations.invariant in
    let one = c.in-Ok-step.ensures.stepped in
    record {
      stepped = record {
        after = after_one_more (g.A.Automaton.next_of c.args.rule.now) c.args.cells c.generations.now c.in-Ok-step.later c.generations.n inv.stepped.after one.after;
        states = one.states;
        sparse = one.sparse;
      };
      cells = inv.cells;
      budget = let before = inv.budget in omega (arith, before, c.clusters_by_meetings.ensures.budget);
    }

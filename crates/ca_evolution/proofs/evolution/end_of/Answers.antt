use Rattle.std.proofs.Common.{◌≡◌, ◌<◌, ap, subst, sym, ◌∙◌, arith}
use Rattle.std.specs.Prelude.{ℤ}
use Rattle.ca_plane.specs.Prelude.{cells_after}
use Rattle.ca_quad.specs.Prelude.{cell}
use Rattle.ca_pattern.proofs.LaterPlanes.{later_is_low, later_small}
use Rattle.ca_pattern.proofs.Nearby.{end_outside}
use Rattle.ca_evolution.proofs.evolution.end_of.Goals as goal

pub returns-clause-end : goal.returns-clause-end
returns-clause-end g c =
    let next = g.A.Automaton.next_of c.args.leaper.now.rule in
    let quiet = g.met.A.Automaton.quiet c.args.leaper.now.rule c.store.ensures.rule in
    let first = cell c.args.leaper.now.nodes c.args.pattern in
    let tree = c.in_ok-tree.tree in
    let told = c.in_ok-tree.ensures in
    let end = c.in_ok-end.end in
    let shows : (x y : ℤ) → cell c.trim.new.self tree x y ≡ cells_after next first c.args.generations x y =
    λ x y. told.cells x y ∙ c.in_ok-copy.ensures.cells x y ∙ ap (λ s. cell s end x y) c.store-2.ensures.nodes ∙ c.in_ok-end.ensures.end.shows x y in
    let low = later_is_low next first c.args.generations quiet c.requires.run.pattern.range c.requires.run.few c.trim.new.self tree told.trimmed shows in (
      record {
        near = record {
          is_tree = told.tree;
          low = omega (arith, low);
          near = end_outside next first (cell c.trim.new.self tree) c.args.generations shows quiet c.requires.run.pattern.range c.requires.run.few;
        };
        low = omega (arith, low);
        trimmed = told.trimmed;
        shows = shows;
      },
      low,
    )

pub returns-clause-small : goal.returns-clause-small
returns-clause-small g c = λ small x y.
    let rule = c.args.leaper.now.rule in
    let count = g.A.Automaton.state_count rule in
    let first = cell c.args.leaper.now.nodes c.args.pattern in
    let end = c.in_ok-end.end in
    let shows = c.in_ok-tree.ensures.cells x y ∙ c.in_ok-copy.ensures.cells x y ∙ ap (λ s. cell s end x y) c.store-2.ensures.nodes ∙ c.in_ok-end.ensures.end.shows x y in
    let later = later_small (g.A.Automaton.next_of rule) first count (λ nine long below. g.met.A.Automaton.closed rule nine c.store.ensures.rule long below) small c.args.generations x y in
    subst (λ s. s < count) (sym shows) later

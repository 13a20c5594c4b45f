use Rattle.ca_quad.specs.Prelude.{cell}
use Rattle.ca_pattern.proofs.Nearby.{end_outside}
use Rattle.ca_evolution.proofs.trees.tree_after.Goals as goal

pub returns-clause-end : goal.returns-clause-end
returns-clause-end g c =
    let next = g.A.Automaton.next_of c.args.leaper.now.rule in
    let quiet = g.met.A.Automaton.quiet c.args.leaper.now.rule c.store.ensures.rule in
    let end = c.in_ok-end.ensures.advanced in
    let before = cell c.args.leaper.now.nodes in
    let after = cell c.advance_watched.new.self.nodes c.in_ok-end.end in
    record {
      near = record {
        is_tree = end.is_tree;
        low = end.level;
        near = end_outside next (before c.args.pattern.now) after c.args.generations end.cells quiet c.requires.pattern.range c.requires.few;
      };
      shows = end.cells;
    }

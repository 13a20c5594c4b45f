use Rattle.std.proofs.Common.{sym, subst, arith}
use Rattle.ca_plane.specs.Prelude.{HasFewCells}
use Rattle.ca_plane.specs.Plane as plane
use Rattle.ca_quad.specs.Prelude.{cell}
use Rattle.ca_pattern.proofs.Nearby.{later_outside}
use Rattle.ca_pattern.proofs.Starts.{picture_after}
use Rattle.ca_census.proofs.SettledSearches.{one_plane}
use Rattle.ca_census.proofs.later_plane.plane_after.Goals as goal

pub later_tree_within-requires : goal.later_tree_within-requires
later_tree_within-requires g c =
    let pattern = c.requires.pattern in
    record {
      is_tree = pattern.is_tree;
      low = let low = pattern.low in omega (arith, low);
      trimmed = pattern.trimmed;
      few = c.requires.few;
      near = later_outside (g.A.Automaton.next_of c.args.leaper.now.rule) (cell c.args.leaper.now.nodes c.args.pattern) c.args.generations
          (g.met.A.Automaton.quiet c.args.leaper.now.rule c.store.ensures.rule) pattern.range c.requires.few;
    }

pub returns-in-Ok-clause-plane : goal.returns-in-Ok-clause-plane
returns-in-Ok-clause-plane g c = λ cells shows.
    let mid = c.later_tree_within.new.leaper.nodes in
    let later = rw c.in-Some.is at c.in_ok-later.ensures.later in
    let drawn = c.in-Ok.ensures.cells in
    picture_after (g.A.Automaton.next_of c.args.leaper.now.rule) (cell c.args.leaper.now.nodes c.args.pattern) cells c.in-Ok.plane c.args.generations mid c.in-Some.later
    shows later (λ x y. rw (sym c.store-2.ensures.nodes) (drawn.shows x y))

pub returns-in-Ok-clause-few : goal.returns-in-Ok-clause-few
returns-in-Ok-clause-few g c =
    let drawn = c.in-Ok.ensures.cells in
    subst HasFewCells (sym (one_plane (plane.cell c.in-Ok.plane) (cell c.store-2.result.now c.in-Some.later) drawn.shows)) drawn.few

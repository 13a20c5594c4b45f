use Rattle.std.proofs.Common.{sym, subst}
use Rattle.ca_plane.specs.Prelude.{Picture}
use Rattle.ca_census.specs.Prelude.{FitsFile}
use Rattle.ca_census.proofs.ObjectCells.{objects_fit}
use Rattle.ca_census.proofs.SettledSearches.{some_picture, settled_clusters}
use Rattle.ca_census.proofs.file.census_of_tree.Goals as goal

pub returns : goal.returns
returns g c =
    let next = g.A.Automaton.next_of c.args.rule.now in
    let states = g.A.Automaton.state_count c.args.rule.now in
    let settling = c.in-Some.settling in
    let census = c.in_ok-census.census in
    let (cells, shows) = some_picture c.args.leaper.now.nodes c.args.pattern in
    let settles = rw c.in-Some.is at (c.in_ok-settling.ensures.settling cells shows) in
    let are = settled_clusters next cells c.args.reach settling settles.settled in
    let is_census = c.in_ok-census.ensures.census are.round in
    let fits = rw c.in-Some.is at c.in_ok-settling.ensures.fits in
    record {
      census = λ others show. let is = rw c.in-Some.is at (c.in_ok-settling.ensures.settling others show) in (settling, is, is_census);
      fits = subst (λ (p : Picture). FitsFile states p) (sym is_census.plane) fits;
      objects = objects_fit next c.args.coded states settling census is_census are c.in_ok-census.ensures.sparse fits;
    }

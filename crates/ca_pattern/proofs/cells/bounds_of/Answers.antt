use Rattle.std.proofs.Common.{subst}
use Rattle.std.specs.Option.{MatchOption}
use Rattle.ca_quad.specs.Prelude.{IsDead, IsLeastWideBox, cell}
use Rattle.ca_pattern.proofs.LaterPlanes.{near_bounds}
use Rattle.ca_pattern.proofs.cells.bounds_of.Goals as goal

pub bounds_of_wide-requires : goal.bounds_of_wide-requires
bounds_of_wide-requires c =
    let cells = cell c.args.store.now c.args.tree in
    near_bounds c.args.store.now c.count.ensures.sound c.args.tree c.requires c.in-Some.bounds
    (subst (λ found. MatchOption found (IsDead cells) (IsLeastWideBox cells)) c.in-Some.is c.in_ok-bounds.ensures)

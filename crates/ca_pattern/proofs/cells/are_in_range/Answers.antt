use Rattle.std.proofs.Common.{subst}
use Rattle.std.specs.Option.{MatchOption}
use Rattle.ca_quad.specs.Prelude.{IsDead, IsLeastWideBox, cell}
use Rattle.ca_pattern.proofs.LaterPlanes.{box_out_of_range}
use Rattle.ca_pattern.proofs.cells.are_in_range.Goals as goal

pub returns-in-Some-clause-out : goal.returns-in-Some-clause-out
returns-in-Some-clause-out c = λ out.
    let cells = cell c.args.store.now c.args.tree.now in
    box_out_of_range cells c.in-Some.bounds (subst (λ found. MatchOption found (IsDead cells) (IsLeastWideBox cells)) c.in-Some.is c.in_ok-bounds.ensures) (c.is_in_range.ensures.out out)

use Rattle.std.proofs.Common.{arith}
use Rattle.std.proofs.lemmas.Bool.Decides.{nat_tests}
use Rattle.ca_quad.proofs.LiveCells.{few_counted, many_counted}
use Rattle.ca_quad.proofs.store.Store.check_limits.Goals as goal

pub returns-then-branch-gt-MAX_CELLS-clause-fault : goal.returns-then-branch-gt-MAX_CELLS-clause-fault
returns-then-branch-gt-MAX_CELLS-clause-fault c =
    (c.in_ok-check_reach.ensures.fits, many_counted c.args.self.now c.args.tree c.requires c.in_ok-live_cells.field-0 c.in_ok-live_cells.ensures.count (grind (arith, nat_tests)))

pub returns-clause-few : goal.returns-clause-few
returns-clause-few c = few_counted c.args.self.now c.args.tree c.requires c.in_ok-live_cells.field-0 c.in_ok-live_cells.ensures.count (grind (arith, nat_tests))

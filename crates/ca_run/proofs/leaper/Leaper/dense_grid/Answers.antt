use Rattle.std.proofs.Common.{IfSome, subst}
use Rattle.ca_quad.specs.Prelude.{cell}
use Rattle.ca_run.specs.inner.Frames.{IsReadByBricks, IsGridFrame, IsFramed}
use Rattle.ca_run.proofs.leaper.Leaper.dense_grid.Goals as goal

pub grid_of-requires-clause-tree : goal.grid_of-requires-clause-tree
grid_of-requires-clause-tree g c = subst (λ found. IfSome found (λ _. IsReadByBricks c.args.self.now.nodes c.args.tree.now)) c.in-Some.is c.in_ok-frame.ensures.read

pub grid_of-requires-clause-frame : goal.grid_of-requires-clause-frame
grid_of-requires-clause-frame g c = subst (λ found. IfSome found IsGridFrame) c.in-Some.is c.in_ok-frame.ensures.frame

pub returns-clause-shows : goal.returns-clause-shows
returns-clause-shows g c =
    c.grid_of.ensures.shows c.args.margin (subst (λ found. IfSome found (λ frame. IsFramed c.args.margin frame (cell c.args.self.now.nodes c.args.tree.now))) c.in-Some.is c.in_ok-frame.ensures.framed)

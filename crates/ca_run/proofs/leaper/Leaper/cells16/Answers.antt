use Rattle.std.proofs.Common.{ap, subst}
use Rattle.ca_quad.specs.Prelude.{AreCorners}
use Rattle.ca_run.proofs.Bases.{four_cells}
use Rattle.ca_run.proofs.leaper.Leaper.cells16.Goals as goal

pub returns : goal.returns
returns g c =
    let same = ap (λ l. l.nodes) c.self.view_is in
    four_cells c.args.self.now.nodes c.args.nw c.args.ne c.args.sw c.args.se c.cells4.result c.cells4-2.result c.cells4-3.result c.cells4-4.result
    (subst (λ n. AreCorners n c.args.nw c.cells4.result) same c.cells4.ensures.corners) (subst (λ n. AreCorners n c.args.ne c.cells4-2.result) same c.cells4-2.ensures.corners)
    (subst (λ n. AreCorners n c.args.sw c.cells4-3.result) same c.cells4-3.ensures.corners) (subst (λ n. AreCorners n c.args.se c.cells4-4.result) same c.cells4-4.ensures.corners)

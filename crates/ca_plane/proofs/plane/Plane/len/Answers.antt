use Rattle.std.proofs.Common.{length, ap, ◌∙◌, subst, sym}
use Rattle.ca_plane.specs.Prelude.{Picture, cell, HasPopulation, IsSparse}
use Rattle.ca_plane.proofs.Populations.{sparse_population}
use Rattle.ca_plane.proofs.plane.Plane.len.Goals as goal

pub returns-clause-population : goal.returns-clause-population
returns-clause-population c =
    let listed = c.len.ensures ∙ (c.self.inside.cells.ok.0 ∙ ap (λ (p : Picture). length p) c.self.view_is) in
    subst (λ n. HasPopulation (cell c.args.self.now) n) (sym listed) (sparse_population c.args.self.now (subst IsSparse c.self.view_is c.self.invariant))

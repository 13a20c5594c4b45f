use Rattle.std.proofs.Common.{◌≡◌, suc, length, sym, ap, subst, arith}
use Rattle.ca_quad.specs.Prelude.{IsOf}
use Rattle.ca_run.proofs.ShownPlanes.{quarters_at}
use Rattle.ca_run.proofs.leaper.Leaper.quarters.Goals as goal

pub returns-clause-shows : goal.returns-clause-shows
returns-clause-shows g c = λ p a b shows.
    let four : length c.children.result ≡ 4 = omega (arith, c.children.type_inv) in
    let square = subst (λ l. IsOf l.nodes c.args.id (suc (suc c.args.part_level))) (sym c.self.view_is) c.requires in
    quarters_at c.self.inside.store c.args.self.now.nodes (ap (λ l. l.nodes) c.self.view_is) c.args.id (suc c.args.part_level) c.children.result
    c.index-children-0.result c.index-children-1.result c.index-children-2.result c.index-children-3.result p a b four (c.children.ensures.quarters (suc c.args.part_level) square) shows

use Rattle.std.proofs.Common.{◌≡◌, suc, refl, sym, subst}
use Rattle.std.specs.Prelude.{replicate}
use Rattle.ca_quad.specs.Prelude.{IsOf, cell_of, IsEmpty}
use Rattle.ca_run.proofs.Bases.{empty_at, empty_is_centre}
use Rattle.ca_run.proofs.leaper.Leaper.empty_centre.Goals as goal

pub returns : goal.returns
returns g c = λ j few.
    let k = c.args.part_level in
    let square = subst (λ l. IsOf l.nodes c.args.id (suc (suc k))) (sym c.self.view_is) c.requires in
    let empty = subst (λ l. IsEmpty (cell_of l.nodes (suc (suc k)) c.args.id)) c.self.view_is ((c.if-not-is_empty.ensures (suc (suc k)) square).0 refl) in
    let quiet = g.met.A.Automaton.quiet c.self.inside.rule c.self.invariant.rule in
    let parts = c.quarters-result_id.ensures.shows (λ _ _. 0) _ _ (empty_at c.args.self.now.nodes c.args.id (suc (suc k)) c.requires empty) in
    empty_is_centre (g.A.Automaton.next_of c.args.self.now.rule) (subst (λ l. g.A.Automaton.next_of l.rule (replicate 9 0) ≡ 0) c.self.view_is quiet)
    c.args.self.now.nodes c.args.id k j _ c.requires few empty parts.at_nw

use Rattle.std.proofs.Common.{◌≢◌, sym, subst, ◌∙◌}
use Rattle.std.specs.Prelude.{◌≡◌, ◌↔◌, ℤ, IsNone, IfSome}
use Rattle.ca_quad.specs.Prelude.{cell}
use Rattle.ca_run.proofs.LeaperGrowth.{goes_on_again}
use Rattle.ca_run.proofs.Trees.{both_padded, some_as}
use Rattle.ca_run.proofs.leaper.Leaper.difference.Goals as goal

pub returns-clause-none : goal.returns-clause-none
returns-clause-none g c =
    let same = both_padded _ _ _ c.in_ok-a.ensures.sound c.in_ok-a.ensures.at_cost.goes_on.grows c.in_ok-b.ensures.at_cost.goes_on.grows c.args.a c.args.b c.in_ok-a.a c.in_ok-b.b _ c.in_ok-a.ensures.padded c.requires.b c.in_ok-b.ensures.padded in
    let both = subst (λ l. IsNone c.difference.result ↔ ((x y : ℤ) → cell l.nodes c.in_ok-a.a x y ≡ cell l.nodes c.in_ok-b.b x y)) c.self.view_is c.difference.ensures.none in
    (λ none x y. sym (same.0 x y) ∙ (both.0 none x y ∙ same.1 x y), λ as_before. both.1 (λ x y. same.0 x y ∙ (as_before x y ∙ sym (same.1 x y))))

pub returns-clause-some : goal.returns-clause-some
returns-clause-some g c =
    let same = both_padded _ _ _ c.in_ok-a.ensures.sound c.in_ok-a.ensures.at_cost.goes_on.grows c.in_ok-b.ensures.at_cost.goes_on.grows c.args.a c.args.b c.in_ok-a.a c.in_ok-b.b _ c.in_ok-a.ensures.padded c.requires.b c.in_ok-b.ensures.padded in
    some_as c.difference.result _ (λ at. cell c.args.self.now.nodes c.args.a at.x at.y ≢ cell c.args.self.now.nodes c.args.b at.x at.y) (λ at other as_before. other (same.0 at.x at.y ∙ (as_before ∙ sym (same.1 at.x at.y))))
    (subst (λ l. IfSome c.difference.result (λ at. cell l.nodes c.in_ok-a.a at.x at.y ≢ cell l.nodes c.in_ok-b.b at.x at.y)) c.self.view_is c.difference.ensures.some)

pub returns-clause-goes_on : goal.returns-clause-goes_on
returns-clause-goes_on g c = goes_on_again _ c.args.self.now c.padded_tree.new.self c.padded_tree-2.new.self c.in_ok-a.ensures.at_cost.goes_on c.in_ok-b.ensures.at_cost.goes_on

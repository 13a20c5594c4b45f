use Rattle.std.proofs.Common.{rules, sym, subst, ◌∙◌, w64, SFits}
use Rattle.std.specs.Prelude.{ℤ}
use Rattle.std.proofs.lemmas.Int.{to_z-of_z}
use Rattle.ca_pattern.specs.Prelude.{IsNoMove, IsOnlyMove}
use Rattle.ca_verify.proofs.Starts.{near_pattern}
use Rattle.ca_verify.proofs.decide.returns.return_anywhere.Goals as goal

pub returns-in_default-clause-back : goal.returns-in_default-clause-back
returns-in_default-clause-back g c = subst (λ s. IsNoMove s c.args.end.now c.args.pattern.now) c.store-store.ensures.nodes (rw c.in_default.is at c.in_ok-dx.ensures)

pub vector_if_back-requires-clause-first : goal.vector_if_back-requires-clause-first
vector_if_back-requires-clause-first g c = near_pattern c.args.leaper.now.nodes c.args.pattern.now c.requires.pattern

pub vector_if_back-requires-clause-only : goal.vector_if_back-requires-clause-only
vector_if_back-requires-clause-only g c = λ dx dy is.
    let v : ℤ × ℤ = (c.in-Some.dx, c.in-Some.dy) in
    let fits_x : SFits w64 c.in-Some.dx = search rules in
    let fits_y : SFits w64 c.in-Some.dy = search rules in
    let only = subst (λ s. IsOnlyMove s c.args.end.now c.args.pattern.now v) c.store-store.ensures.nodes (rw c.in-Some.is at c.in_ok-dx.ensures) dx dy is in
    (only.0 ∙ sym (to_z-of_z w64 c.in-Some.dx fits_x), only.1 ∙ sym (to_z-of_z w64 c.in-Some.dy fits_y))

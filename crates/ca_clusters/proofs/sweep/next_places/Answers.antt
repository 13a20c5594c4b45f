use Rattle.std.proofs.Common.{◌≡◌, ◌++◌, ◌∙◌, ℕ, ap, sym, subst, rules}
use Rattle.std.specs.List.{All}
use Rattle.std.proofs.lemmas.List.Elements.{All-append}
use Rattle.ca_plane.specs.declared.point.Point.{Point}
use Rattle.ca_plane.specs.Prelude.{Picture, IsInPlane}
use Rattle.ca_clusters.proofs.sweep.next_places.Goals as goal

pub generations-preserved : goal.generations-preserved
generations-preserved g c =
    let cells : Picture = c.generations.cells.items in
    let later : Picture = c.in-Ok.later in
    let items : c.extend_from_slice.new.self.items ≡ cells ++ later = c.in_ok-extend_from_slice.ensures.items ∙ ap (λ (p : Picture). cells ++ p) c.as_slice-in-generations.ensures.all in
    let near : All (λ (e : Point × ℕ). IsInPlane e.0) (cells ++ later) = All-append (λ (e : Point × ℕ). IsInPlane e.0) cells later c.generations.invariant.near c.as_slice-in-generations.ensures.sparse.places in
    record {
      states = search rules;
      near = subst (All (λ (e : Point × ℕ). IsInPlane e.0)) (sym items) near;
      budget = search rules;
    }

use Rattle.std.proofs.Common.{ℕ, [], ◌∷◌, ◌++◌, Some, rules, append_assoc, refl, sym, ap, ◌∙◌}
use Rattle.std.specs.Ordering.{is_lt}
use Rattle.std.proofs.lemmas.List.{append-nil}
use Rattle.std.proofs.lemmas.List.Elements.{All-pop}
use Rattle.std.proofs.lemmas.List.MinMax.{ranks_by, IsStrictWeakOrder-flip}
use Rattle.std.proofs.lemmas.List.Sorted.{All-permutation, answers_always}
use Rattle.ca_plane.specs.declared.point.Point.{Point}
use Rattle.ca_plane.specs.Prelude.{Picture, cell, IsInPlane, point_cmp}
use Rattle.ca_plane.proofs.Pictures.{IsSparse-none, IsSame-Sets, point_cmp_total}
use Rattle.ca_plane.proofs.CellOrders.{IsSame-stable, emptied}
use Rattle.ca_plane.proofs.plane.Plane.from_cells.Goals as goal

pub invariant_of-plane : goal.invariant_of-plane
invariant_of-plane c = rw c.in_ok-with_capacity.ensures.items IsSparse-none

pub cells-init : goal.cells-init
cells-init c = record {
  taken = ([], sym (append-nil _), λ x y. ap (λ (p : Picture). cell p x y) c.in_ok-with_capacity.ensures.items);
  places = All-permutation (λ e. IsInPlane e.0) c.args.cells.items _ c.sort_by.ensures.permutation c.requires;
  sparse = invariant_of-plane c;
}

pub set-requires : goal.set-requires
set-requires c =
    let both = All-pop (λ e. IsInPlane e.0) c.cells.falling.items _ (Some (c.in-Some.point, c.in-Some.state)) c.in-Some.ensures.items c.cells.invariant.places in both.1

pub cells-preserved : goal.cells-preserved
cells-preserved c =
    let (t, split, same) = c.cells.invariant.taken in
    let cell_off : Point × ℕ = (c.in-Some.point, c.in-Some.state) in
    record {
      taken = (cell_off ∷ t, split ∙ ap (λ (l : Picture). l ++ t) c.in-Some.ensures.items ∙ append_assoc _ (cell_off ∷ []) t, IsSame-Sets _ _ t (cell_off ∷ t) c.in-Some.point c.in-Some.state c.in_ok-set.ensures.ok (λ x y. refl) same);
      places = (All-pop (λ e. IsInPlane e.0) c.cells.falling.items _ (Some cell_off) c.in-Some.ensures.items c.cells.invariant.places).0;
      sparse = c.in_ok-set.ensures.sparse;
    }

pub returns-clause-same : goal.returns-clause-same
returns-clause-same c =
    let stable =
    c.sort_by.ensures.stable (λ (a : Point × ℕ) (b : Point × ℕ). is_lt (point_cmp b.0 a.0)) (IsStrictWeakOrder-flip _ (ranks_by point_cmp_total (λ (e : Point × ℕ). e.0)))
    (answers_always _ _ _ (λ f a r g called. search rules)) in
    let (t, split, same) = c.cells.invariant.taken in
    let all = emptied _ c.cells.falling.items t split (sym c.cells.falling.ok.0 ∙ c.in_default.ensures.cases.0) in
    λ x y. same x y ∙ ap (λ (p : Picture). cell p x y) (sym all) ∙ sym (IsSame-stable c.args.cells.items _ stable x y)

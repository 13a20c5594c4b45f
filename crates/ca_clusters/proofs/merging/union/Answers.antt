use Rattle.std.proofs.Common.{◌≡◌, ◌++◌, ℕ, ap, ◌∙◌}
use Rattle.std.proofs.lemmas.List.Elements.{All-append, All-same}
use Rattle.std.proofs.lemmas.Result.{IfOk-weaker}
use Rattle.ca_plane.specs.declared.point.Point.{Point}
use Rattle.ca_plane.specs.Prelude.{Picture, cell, IsSame, IsInPlane}
use Rattle.ca_clusters.proofs.MergedRuns.{cell-append}
use Rattle.ca_clusters.proofs.merging.union.Goals as goal
use Rattle.ca_clusters.proofs.merging.union.Goals.{In_ok-extend_from_slice-2}

-- the cells are those of the one plane and then those of the other
whole : (c : In_ok-extend_from_slice-2) → c.extend_from_slice-2.new.self.items ≡ c.args.one.now ++ c.args.other.now
whole c =
    let front : c.extend_from_slice.new.self.items ≡ c.args.one.now =
    c.in_ok-extend_from_slice.ensures.items ∙ ap (λ (l : Picture). l ++ c.as_slice-first.result.now) c.in_ok-cells.ensures.items ∙ c.as_slice-first.ensures.all in
    cc (c.in_ok-extend_from_slice-2.ensures.items, c.as_slice-second.ensures.all)

pub from_cells-requires : goal.from_cells-requires
from_cells-requires c =
    let Lies : Point × ℕ → Type 0 = λ e. IsInPlane e.0 in
    All-same Lies c.extend_from_slice-2.new.self.items (c.args.one.now ++ c.args.other.now) (whole (goal.at.from_cells-requires c).In_ok-extend_from_slice-2)
    (All-append Lies c.args.one.now c.args.other.now c.as_slice-first.ensures.sparse.places c.as_slice-second.ensures.sparse.places)

pub returns-clause-both : goal.returns-clause-both
returns-clause-both c = λ disjoint.
    let p = c.args.one.now in
    let q = c.args.other.now in
    let items = whole (goal.at.returns-clause-both c).In_ok-extend_from_slice-2 in
    IfOk-weaker c.from_cells.result (λ (r : Picture). IsSame r c.extend_from_slice-2.new.self.items) _
    (λ r same x y. same x y ∙ ap (λ (s : Picture). cell s x y) items ∙ cell-append p q x y c.as_slice-first.ensures.sparse.states (disjoint x y))
    c.from_cells.ensures.same

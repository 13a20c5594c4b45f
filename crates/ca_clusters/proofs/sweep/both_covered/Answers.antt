use Rattle.std.proofs.Common.{◌≡◌, ◌++◌, ap, ◌∙◌, sym}
use Rattle.std.proofs.lemmas.Result.{IfOk-weaker}
use Rattle.ca_plane.specs.Prelude.{Picture, cell, IsSame}
use Rattle.ca_clusters.specs.inner.Regions.{IsCoveredBy}
use Rattle.ca_clusters.proofs.SweptRegions.{covered_first, covered_second}
use Rattle.ca_clusters.proofs.sweep.both_covered.Goals as goal
use Rattle.ca_clusters.proofs.sweep.both_covered.Goals.{In_ok-extend_from_slice-2}

-- the cells are those of the one plane and then those of the other
whole : (c : In_ok-extend_from_slice-2) → c.extend_from_slice-2.new.self.items ≡ c.args.one.now ++ c.args.other.now
whole c =
    let front : c.extend_from_slice.new.self.items ≡ c.args.one.now =
    c.in_ok-extend_from_slice.ensures.items ∙ ap (λ (l : Picture). l ++ c.as_slice-first.result.now) c.in_ok-cells.ensures.items ∙ c.as_slice-first.ensures.all in
    cc (c.in_ok-extend_from_slice-2.ensures.items, c.as_slice-second.ensures.all)

-- what is live in both lists one after the other is live in the plane
passed_on : (p cells all q : Picture) → cells ≡ all → IsCoveredBy p all → IsSame q cells → IsCoveredBy p q
passed_on p cells all q items covered same x y live = λ none. covered x y live (sym (same x y ∙ ap (λ (l : Picture). cell l x y) items) ∙ none)

pub returns-clause-one : goal.returns-clause-one
returns-clause-one c =
    let p = c.args.one.now in
    let q = c.args.other.now in
    let items = whole (goal.at.returns-clause-one c).In_ok-extend_from_slice-2 in
    IfOk-weaker c.from_cells.result (λ (r : Picture). IsSame r c.extend_from_slice-2.new.self.items) _
    (λ r same. passed_on p c.extend_from_slice-2.new.self.items (p ++ q) r items (covered_first p q) same) c.from_cells.ensures.same

pub returns-clause-other : goal.returns-clause-other
returns-clause-other c =
    let p = c.args.one.now in
    let q = c.args.other.now in
    let items = whole (goal.at.returns-clause-other c).In_ok-extend_from_slice-2 in
    IfOk-weaker c.from_cells.result (λ (r : Picture). IsSame r c.extend_from_slice-2.new.self.items) _
    (λ r same. passed_on q c.extend_from_slice-2.new.self.items (p ++ q) r items (covered_second p q c.as_slice-first.ensures.sparse.states) same) c.from_cells.ensures.same

use Rattle.std.proofs.Common.{◌≡◌, length, ap, ◌∙◌, subst, arith}
use Rattle.std.proofs.lemmas.Bool.{eqb-true}
use Rattle.ca_plane.specs.Prelude.{Picture, IsSame}
use Rattle.ca_clusters.specs.inner.Groups.{latest_of}
use Rattle.ca_clusters.proofs.GroupUnions.{IsUnionOf-counted, places_of_all}
use Rattle.ca_clusters.proofs.objects.groups.whole_of.Goals as goal

pub from_cells-requires : goal.from_cells-requires
from_cells-requires c =
    rw c.in_ok-cells.ensures.cells (places_of_all latest_of c.args.runs.now c.in_ok-cells.ensures.sparse)

pub returns : goal.returns
returns c counted =
    let cells = c.in_ok-cells.cells in
    let plane = c.in_ok-plane.plane in
    let is = c.in_ok-cells.ensures.cells in
    let all = eqb-true c.len.result c.len-count.result counted in
    let long : length plane ≡ length cells.items = omega (arith, all) in
    IsUnionOf-counted latest_of c.args.runs.now plane c.in_ok-cells.ensures.sparse c.in_ok-plane.ensures.sparse
    (subst (IsSame plane) is c.in_ok-plane.ensures.same) (long ∙ ap (λ (q : Picture). length q) is)

use Rattle.std.proofs.Common.{◌≡◌, ◌≤◌, ◌++◌, ℕ, List, map, take, ap, ◌∙◌, arith, subst}
use Rattle.std.specs.Prelude.{ℤ}
use Rattle.std.proofs.lemmas.List.{take_all}
use Rattle.std.proofs.lemmas.List.Elements.{All-append}
use Rattle.std.proofs.lemmas.Result.{IfOk-weaker}
use Rattle.ca_plane.specs.declared.point.Point.{Point}
use Rattle.ca_plane.specs.Prelude.{Picture, cell, IsSparse, IsInPlane, IsSame}
use Rattle.ca_parts.specs.Prelude.{Course, together}
use Rattle.ca_clusters.specs.Clusters.{first_plane}
use Rattle.ca_clusters.proofs.ApartCourses.{union_more}
use Rattle.ca_clusters.proofs.earlier.union_of.Goals as goal

pub courses-preserved : goal.courses-preserved
courses-preserved c =
    let cells : Picture = c.courses.cells.items in
    let p : Picture = first_plane c.course-item.result in
    let joined : c.extend_from_slice.new.self.items ≡ cells ++ p = c.in_ok-extend_from_slice.ensures.items ∙ ap (λ (q : Picture). cells ++ q) (c.as_slice.ensures.all ∙ c.first_of.ensures) in
    let sparse : IsSparse p = subst IsSparse c.first_of.ensures c.as_slice.ensures.sparse in
    rw joined (record {
      states = All-append (λ (e : Point × ℕ). (1 ≤ e.1) × (e.1 ≤ 255)) cells p c.courses.invariant.states sparse.states;
      places = All-append (λ (e : Point × ℕ). IsInPlane e.0) cells p c.courses.invariant.places sparse.places;
      shown = λ pairs.
          union_more c.args.courses.now c.courses.course-index c.course-item.result cells (omega arith) c.course-item.is c.courses.invariant.states pairs
          (c.courses.invariant.shown pairs);
    })

pub returns : goal.returns
returns c = λ pairs.
    let whole : take c.courses.course-index c.args.courses.now ≡ c.args.courses.now = take_all c.courses.course-index c.args.courses.now (omega arith) in
    IfOk-weaker c.from_cells.result (λ (q : Picture). IsSame q c.courses.cells.items) (λ (q : Picture). (x y : ℤ) → cell q x y ≡ together (map first_plane c.args.courses.now) x y)
    (λ q same x y. same x y ∙ c.courses.invariant.shown pairs x y ∙ ap (λ (cs : List Course). together (map first_plane cs) x y) whole) c.from_cells.ensures.same

use Rattle.std.proofs.Common.{◌≡◌, ◌<◌, List, [], length, take, sym, ap, ◌∙◌, subst, arith}
use Rattle.std.proofs.lemmas.List.{get_or_default}
use Rattle.std.proofs.lemmas.Option.{IfSome_then}
use Rattle.ca_plane.specs.Prelude.{Picture, IsSame, shifted}
use Rattle.ca_parts.specs.Prelude.{Course, plane_at}
use Rattle.ca_clusters.specs.Clusters.{first_plane, GoesRound}
use Rattle.ca_clusters.proofs.GroupObjects.{GoesRound-cut, first_cut}
use Rattle.ca_clusters.proofs.objects.courses.course_of.Goals as goal

pub returns-in-Some : goal.returns-in-Some
returns-in-Some c = λ next are.
    let planes = c.args.planes.items in
    let now = c.planes.planes.items in
    let k = c.planes.k in
    let so_far = c.planes.invariant in
    let dx = c.in-Some.shift.dx in
    let dy = c.in-Some.shift.dy in
    let low_now : k < length now = omega (arith, c.len.ensures, c.planes.planes.ok.0, c.planes-test.true) in
    let low : k < length planes = subst (λ (ps : List Picture). k < length ps) so_far.kept low_now in
    let first : c.index.result.now ≡ plane_at planes 0 =
    c.index.ensures ∙ get_or_default now 0 c.index.result.now [] (omega (arith, low_now)) ∙ ap (λ (ps : List Picture). plane_at ps 0) so_far.kept in
    let here : c.index-in-planes.result.now ≡ plane_at planes k =
    c.index-in-planes.ensures ∙ get_or_default now k c.index-in-planes.result.now [] low_now ∙ ap (λ (ps : List Picture). plane_at ps k) so_far.kept in
    let course : Course = record { planes = c.truncate.new.self.items; dx = dx; dy = dy } in
    let cut : course.planes ≡ take k planes = c.truncate.ensures.items ∙ ap (λ (ps : List Picture). take k ps) so_far.kept in
    let back : IsSame (plane_at planes k) (shifted (plane_at planes 0) dx dy) =
    subst (λ (p : Picture). IsSame p (shifted (plane_at planes 0) dx dy)) here
    (subst (λ (p : Picture). IsSame c.index-in-planes.result.now (shifted p dx dy)) first c.in-Some.ensures.some) in
    let round = GoesRound-cut next planes k course are so_far.some low cut back so_far.away c.requires in
    let start = first_cut next planes k course are so_far.some low cut back so_far.away in
    IfSome_then c.course_with.result c.course_with.ensures
    (λ r is. subst (λ (s : Course). GoesRound next s × (first_plane s ≡ plane_at planes 0)) (sym is) (round, start))

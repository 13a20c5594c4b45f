use Rattle.std.proofs.Common.{◌≡◌, ◌+◌, ◌-◌, List, length, map, refl, sym, subst}
use Rattle.std.specs.List.{All}
use Rattle.ca_plane.specs.Prelude.{Picture, IsSame, shifted}
use Rattle.ca_parts.specs.Prelude.{plane_at}
use Rattle.ca_clusters.specs.declared.objects.groups.Run.{Run}
use Rattle.ca_clusters.specs.inner.Groups.{AreGenerations, AreCoursesOf, start_of}
use Rattle.ca_clusters.proofs.GroupRuns.{all_yielded, all_split}
use Rattle.ca_clusters.proofs.GroupObjects.{AreCoursesOf-put}
use Rattle.ca_clusters.proofs.objects.courses.courses_of.Goals as goal

pub runs-preserved : goal.runs-preserved
runs-preserved c = λ next all.
    let cluster = c.args.cluster.now in
    let run = c.in-Some.run' in
    let course = c.in-Some-course_of.course in
    let (so_far, here) = all_split (λ (r : Run). AreGenerations next r.planes.items × (length r.planes.items ≡ length cluster.planes + 1)) c.runs.yielded run all in
    let same = subst (λ (ps : List Picture). IsSame (plane_at ps (length ps - 1)) (shifted (plane_at ps 0) cluster.dx cluster.dy)) c.deref.ensures.value (c.if-not-is_back_with.ensures.back refl) in
    let round = c.in-Some-course_of.ensures next here.0 in
    rw c.in_ok-push.ensures.items
    (AreCoursesOf-put next cluster c.runs.yielded c.runs.courses.items run course (c.runs.invariant next so_far) here.0 here.1 same round.0 round.1)

pub returns : goal.returns
returns c = λ next all.
    let cluster = c.args.cluster.now in
    let whole = all_yielded c.into_iter-run-iterator.result c.runs.run-iterator c.next.new.self c.runs.yielded c.args.runs.items c.next.result c.runs.yielded_by c.in-None.is c.next.ensures.steps c.into_iter-run-iterator.ensures.into_iter_gives.0 in
    subst (λ runs. AreCoursesOf next cluster (map start_of runs) c.runs.courses.items) whole
    (c.runs.invariant next (subst (All (λ (r : Run). AreGenerations next r.planes.items × (length r.planes.items ≡ length cluster.planes + 1))) (sym whole) all))

use Rattle.std.proofs.Common.{List, sym, subst}
use Rattle.std.proofs.lemmas.Option.{IfSome_then}
use Rattle.std.proofs.lemmas.Result.{IfOk-weaker}
use Rattle.ca_plane.specs.Prelude.{Picture, cell}
use Rattle.ca_clusters.specs.Clusters.{first_plane}
use Rattle.ca_clusters.specs.inner.Groups.{AreGroups, AreCoursesOf}
use Rattle.ca_clusters.proofs.GroupObjects.{AreObjects-from_groups}
use Rattle.ca_clusters.proofs.objects.grouping.grouped.Goals as goal

pub returns-in-Same : goal.returns-in-Same
returns-in-Same g c = λ round.
    let next = g.A.Automaton.next_of c.args.rule.now in
    let cluster = c.args.cluster.now in
    let groups = c.groupings.groups.items in
    let (are, along) = rw c.in-Same.is at c.in_ok-runs.ensures in
    let courses = c.courses_of.ensures next (λ k d low. let shown = are.shown k d low in (shown.generations, shown.long)) in
    IfOk-weaker c.courses_of.result _ _ (λ found some.
    IfSome_then found some (λ v of.
    AreObjects-from_groups next cluster groups v.items round c.groupings.invariant along (subst (λ (gs : List Picture). AreCoursesOf next cluster gs v.items) are.starts of))) courses

pub groupings-preserved : goal.groupings-preserved
groupings-preserved g c =
    let cells = cell (first_plane c.args.cluster.now) in
    let starts = rw c.in-Differs.is at c.in_ok-runs.ensures in
    c.in_ok-groups-in-Differs.ensures cells (subst (AreGroups cells) (sym starts) c.groupings.invariant)

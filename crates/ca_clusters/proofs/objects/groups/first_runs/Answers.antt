use Rattle.std.proofs.Common.{◌≡◌, ◌∷◌, ◌++◌, [], length, ap, ◌∙◌}
use Rattle.std.proofs.lemmas.List.Elements.{All-push}
use Rattle.ca_plane.specs.Prelude.{IsSparse}
use Rattle.ca_clusters.specs.declared.objects.groups.Run.{Run}
use Rattle.ca_clusters.proofs.GroupRuns.{starts_put}
use Rattle.ca_clusters.proofs.objects.groups.first_runs.Goals as goal

pub groups-preserved : goal.groups-preserved
groups-preserved c =
    let run : Run = record { planes = c.push.new.self } in
    let p = c.in-Some.group in
    let one : run.planes.items ≡ p ∷ [] = c.in_ok-push.ensures.items ∙ ap (λ ps. ps ++ p ∷ []) c.new-planes.ensures.items in
    rw c.in_ok-push-2.ensures.items (record {
      starts = starts_put c.groups.runs.items run c.groups.yielded p c.groups.invariant.starts one;
      one = All-push (λ (r : Run). length r.planes.items ≡ 1) c.groups.runs.items run c.groups.invariant.one (ap (λ ps. length ps) one);
      sparse = All-push IsSparse c.groups.yielded p c.groups.invariant.sparse c.as_slice.ensures.sparse;
    })

use Rattle.std.proofs.Common.{◌≡◌, ◌≤◌, ◌∷◌, ◌++◌, [], map, refl, sym, ap, ◌∙◌, subst}
use Rattle.std.proofs.lemmas.List.{append-nil}
use Rattle.std.proofs.lemmas.List.Elements.{All-append}
use Rattle.ca_plane.specs.Prelude.{IsInPlane}
use Rattle.ca_clusters.specs.inner.Groups.{AreGroups, start_of}
use Rattle.ca_clusters.proofs.MergedGroups.{groups_seen, groups_kept, groups_skip, groups_end}
use Rattle.ca_clusters.proofs.GroupRuns.{starts_regrouped, all_yielded}
use Rattle.ca_clusters.proofs.objects.groups.merged_near.Goals as goal

pub runs-preserved-in_default : goal.runs-preserved-in_default
runs-preserved-in_default c =
    let so_far = c.runs.invariant in
    let p = start_of c.in-Some.run' in
    record {
      states = so_far.states;
      places = so_far.places;
      merged = λ cells rest are.
          groups_skip cells c.runs.seen.items c.runs.groups.items p rest so_far.states (c.in_default.ensures.none refl)
          (so_far.merged cells (p ∷ rest) (subst (AreGroups cells) (starts_regrouped c.runs.yielded c.in-Some.run' rest) are));
    }

pub runs-preserved-then-is_seen : goal.runs-preserved-then-is_seen
runs-preserved-then-is_seen c =
    let so_far = c.runs.invariant in
    let seen = c.runs.seen.items in
    let groups = c.runs.groups.items in
    let p = c.in-Some-start.group in
    let put : c.extend_from_slice.new.self.items ≡ seen ++ p = c.in_ok-extend_from_slice.ensures.items ∙ ap (λ q. seen ++ q) c.as_slice.ensures.all in
    rw put (record {
      states = All-append (λ e. (1 ≤ e.1) × (e.1 ≤ 255)) seen p so_far.states c.as_slice.ensures.sparse.states;
      places = All-append (λ e. IsInPlane e.0) seen p so_far.places c.as_slice.ensures.sparse.places;
      merged = λ cells rest are.
          groups_seen cells seen groups p rest so_far.states
          (so_far.merged cells (p ∷ rest)
          (subst (λ q. AreGroups cells (map start_of c.runs.yielded ++ q ∷ rest)) (sym c.in-Some-start.ensures.some)
          (subst (AreGroups cells) (starts_regrouped c.runs.yielded c.in-Some.run' rest) are)));
    })

pub runs-preserved : goal.runs-preserved
runs-preserved c =
    let so_far = c.runs.invariant in
    let p = c.in-Some-start.group in
    rw c.in_ok-push.ensures.items (record {
      states = so_far.states;
      places = so_far.places;
      merged = λ cells rest are.
          groups_kept cells c.runs.seen.items c.runs.groups.items p rest
          (so_far.merged cells (p ∷ rest)
          (subst (λ q. AreGroups cells (map start_of c.runs.yielded ++ q ∷ rest)) (sym c.in-Some-start.ensures.some)
          (subst (AreGroups cells) (starts_regrouped c.runs.yielded c.in-Some.run' rest) are)));
    })

pub returns : goal.returns
returns c = λ cells are.
    let all : c.runs.yielded ≡ c.args.difference.runs.items = all_yielded c.into_iter-run-iterator.result c.runs.run-iterator c.next.new.self c.runs.yielded c.args.difference.runs.items c.next.result c.runs.yielded_by c.in-None.is c.next.ensures.steps c.into_iter-run-iterator.ensures.into_iter_gives.0 in
    let starts : map start_of c.args.difference.runs.items ≡ map start_of c.runs.yielded ++ [] =
    sym (append-nil (map start_of c.runs.yielded) ∙ ap (λ rs. map start_of rs) all) in
    rw c.in_ok-push-2.ensures.items
    (groups_end cells c.runs.seen.items c.runs.groups.items _ c.in_ok-from_cells.ensures.same
    (c.runs.invariant.merged cells [] (subst (AreGroups cells) starts are)))

use Rattle.std.proofs.lemmas.List.Elements.{AllZip-push}
use Rattle.ca_clusters.specs.inner.Groups.{IsOneLater}
use Rattle.ca_clusters.proofs.objects.groups.later_runs.Goals as goal

pub runs-preserved : goal.runs-preserved
runs-preserved g c =
    let next = g.A.Automaton.next_of c.args.rule.now in
    let count = g.A.Automaton.state_count c.args.rule.now in
    let one = rw c.in-Some-2.is at c.in_ok-longer.ensures in
    rw c.in_ok-push.ensures.items
    (AllZip-push (IsOneLater next count) c.runs.yielded c.runs.later.items c.in-Some.run' c.in-Some-2.longer c.runs.invariant one)

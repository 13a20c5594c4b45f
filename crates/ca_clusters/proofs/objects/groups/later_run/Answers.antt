use Rattle.std.proofs.Common.{subst, arith}
use Rattle.ca_steps.specs.Prelude.{IsStepped}
use Rattle.ca_clusters.proofs.GroupRuns.{IsOneLater-put, latest_read}
use Rattle.ca_clusters.proofs.objects.groups.later_run.Goals as goal

pub returns-in-Ok : goal.returns-in-Ok
returns-in-Ok g c =
    let next = g.A.Automaton.next_of c.args.rule.now in
    let count = g.A.Automaton.state_count c.args.rule.now in
    let latest = latest_read c.args.run c.len.result c.index.result.now c.requires.some (omega (arith, c.len.ensures, c.args.run.planes.ok.0)) c.index.ensures in
    IsOneLater-put next count c.args.run (record { planes = c.push.new.self }) c.in-Ok.later c.requires c.in_ok-push-in-Ok.ensures.items
    (subst (λ p. IsStepped next count p 1 c.in-Ok.later) latest c.in-Ok.ensures.stepped)

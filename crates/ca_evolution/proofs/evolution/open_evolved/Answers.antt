use Rattle.ca_evolution.proofs.EvolvedPatterns.{evolved_ok, unreached_err}
use Rattle.ca_evolution.proofs.evolution.open_evolved.Goals as goal

pub evolve-requires-clause-begins : goal.evolve-requires-clause-begins
evolve-requires-clause-begins g c = c.in_ok-pattern.ensures.range

pub returns-clause-reached : goal.returns-clause-reached
returns-clause-reached g c =
    let is = c.in_ok-pattern.ensures.opened in
    evolved_ok c.args.bytes.now c.args.tables.now c.in_ok-pattern.pattern is c.args.generations c.evolve.result (c.evolve.ensures.evolved _ is.is_pattern)

pub returns-clause-fault : goal.returns-clause-fault
returns-clause-fault g c =
    let is = c.in_ok-pattern.ensures.opened in
    unreached_err c.args.bytes.now c.args.tables.now c.in_ok-pattern.pattern is c.args.generations c.args.limits.work c.evolve.result (c.evolve.ensures.fault _ is.is_pattern)

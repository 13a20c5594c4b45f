use Rattle.std.proofs.Common.{◌≡◌, ◌<◌, length, arith}
use Rattle.ca_rule.proofs.AmongStates.{put-bit}
use Rattle.ca_rule.proofs.table.state_set.put_state.Goals as goal

pub returns-clause-bits : goal.returns-clause-bits
returns-clause-bits c = λ t small.
    let long : length c.args.words.now ≡ 4 = omega arith in
    let fits : c.args.state < 256 = omega arith in
    rw c.from-at.ensures (put-bit c.args.words.now c.args.state t long fits small)

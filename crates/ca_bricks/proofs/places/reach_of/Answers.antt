use Rattle.std.proofs.Common.{◌≤◌, ◌^◌, arith}
use Rattle.std.proofs.Math.Pow.{pow_mono}
use Rattle.std.proofs.lemmas.Int.{ints}
use Rattle.std.proofs.lemmas.Nat.{one_shl}
use Rattle.ca_bricks.proofs.places.reach_of.Goals as goal

pub overflow_cast-result-2 : goal.overflow_cast-result-2
overflow_cast-result-2 c =
    let low : 2 ^ c.args.power ≤ 2 ^ 62 = pow_mono c.requires in
    omega (arith, ints, low, one_shl c.args.power 64 (omega (arith, c.requires)))

pub returns-clause-value : goal.returns-clause-value
returns-clause-value c =
    let low : 2 ^ c.args.power ≤ 2 ^ 62 = pow_mono c.requires in
    omega (arith, ints, low, one_shl c.args.power 64 (omega (arith, c.requires)))

pub returns-clause-most : goal.returns-clause-most
returns-clause-most c =
    let low : 2 ^ c.args.power ≤ 2 ^ 62 = pow_mono c.requires in
    omega (arith, ints, low, one_shl c.args.power 64 (omega (arith, c.requires)))

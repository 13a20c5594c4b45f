use Rattle.std.proofs.Common.{◌≤◌, ◌-◌, ◌^◌, arith}
use Rattle.std.proofs.Math.Nat.{pow-le-pow_right}
use Rattle.ca_quad.proofs.store.read.half_side.Goals as goal

pub returns-clause-low : goal.returns-clause-low
returns-clause-low c =
    let h : 2 ^ (c.args.level - 1) ≤ 2 ^ 124 = pow-le-pow_right {n = 2} (omega arith) {i = c.args.level - 1} {j = 124} (omega arith) in
    omega arith

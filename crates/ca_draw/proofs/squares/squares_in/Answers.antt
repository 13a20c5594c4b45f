use Rattle.std.proofs.Common.{◌≤◌, ◌^◌, arith}
use Rattle.std.proofs.Math.Nat.{pow-le-pow_right}
use Rattle.ca_draw.proofs.squares.squares_in.Goals as goal

pub returns-clause-low : goal.returns-clause-low
returns-clause-low c =
    let h : 2 ^ c.args.levels ≤ 2 ^ 124 = pow-le-pow_right {n = 2} (omega arith) {i = c.args.levels} {j = 124} (omega arith) in
    omega arith

use Rattle.std.proofs.Common.{suc, ◌<◌, arith}
use Rattle.ca_bricks.proofs.kernel.count.SixNeighboursCountInTile.count.Goals as goal

-- three rows of two, and then in binary
pub returns : goal.returns
returns c = λ x y h k.
    let i : x < 15 = omega arith in
    let j : suc y < 15 = omega arith in
    let l : y < 15 = omega arith in
    omega (
      arith,
      c.west-west.ensures x y i,
      c.west-west.ensures x (suc y) i,
      c.east-east.ensures (suc x) (suc y),
      c.east-east.ensures (suc x) (suc (suc y)),
      c.add2.ensures (suc x) (suc y),
      c.add2-2.ensures (suc x) y,
      c.add2-3.ensures (suc x) (suc (suc y)),
      c.north.ensures (suc x) y l,
      c.south.ensures (suc x) (suc y) j,
      c.add3.ensures (suc x) (suc y),
      c.north-2.ensures (suc x) y l,
      c.south-2.ensures (suc x) (suc y) j,
      c.add2-4.ensures (suc x) (suc y),
      c.add2-5.ensures (suc x) (suc y),
      c.add2-6.ensures (suc x) (suc y),
      c.add3-2.ensures (suc x) (suc y),
    )

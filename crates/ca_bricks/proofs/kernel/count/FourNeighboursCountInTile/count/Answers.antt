use Rattle.std.proofs.Common.{suc, ◌<◌, arith}
use Rattle.ca_bricks.proofs.kernel.count.FourNeighboursCountInTile.count.Goals as goal

-- the two in the row and the two in the column, and then in binary
pub returns : goal.returns
returns c = λ x y h k.
    let i : x < 15 = omega arith in
    let j : suc y < 15 = omega arith in
    let l : y < 15 = omega arith in
    omega (
      arith,
      c.west.ensures x (suc y) i,
      c.east.ensures (suc x) (suc y),
      c.north.ensures (suc x) y l,
      c.south.ensures (suc x) (suc y) j,
      c.add2.ensures (suc x) (suc y),
      c.add2-2.ensures (suc x) (suc y),
      c.add2-3.ensures (suc x) (suc y),
      c.add3.ensures (suc x) (suc y),
      c.all.ensures (suc x) (suc y) (omega arith) (omega arith),
    )

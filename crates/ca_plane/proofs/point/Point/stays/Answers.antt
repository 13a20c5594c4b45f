use Rattle.std.proofs.Common.{refl, arith}
use Rattle.std.proofs.lemmas.Int.{ints}
use Rattle.ca_plane.proofs.point.Point.stays.Goals as goal

pub returns-then-is_near : goal.returns-then-is_near
returns-then-is_near c =
    let x = c.if-is_near.ensures.0 refl in (
      λ h. let y = c.is_near-then-is_near.ensures.0 h in (omega (arith, ints), omega (arith, ints), omega (arith, ints), omega (arith, ints)),
      λ q. c.is_near-then-is_near.ensures.1 (omega (arith, ints), omega (arith, ints)),
    )

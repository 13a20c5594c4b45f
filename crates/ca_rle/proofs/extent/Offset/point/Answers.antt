use Rattle.std.proofs.Common.{arith}
use Rattle.std.proofs.lemmas.Int.{ints}
use Rattle.ca_plane.proofs.Pictures.{point-same}
use Rattle.ca_rle.proofs.extent.Offset.point.Goals as goal

pub returns : goal.returns
returns c = point-same _ _ (omega (arith, ints)) (omega (arith, ints))

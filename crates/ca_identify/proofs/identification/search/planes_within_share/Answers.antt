use Rattle.std.proofs.Common.{arith}
use Rattle.ca_identify.proofs.LaterLeapers.{search_nearer}
use Rattle.ca_identify.proofs.identification.search.planes_within_share.Goals as goal

pub early_planes-planes-requires : goal.early_planes-planes-requires
early_planes-planes-requires g c =
    record { first = search_nearer c.requires.first c.power_within.result (omega (arith, c.power_within.ensures.within, c.requires.within)) }

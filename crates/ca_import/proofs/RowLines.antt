-- Lines that are rows.
use Rattle.std.proofs.lemmas.List.Sums.{prefix_len-le-length}
use Rattle.ca_plane.proofs.Lengths.{take_front, drop_front}

-- what a function that splits bytes by a test cites
pub ruleset fronts = (prefix_len-le-length, take_front, drop_front)

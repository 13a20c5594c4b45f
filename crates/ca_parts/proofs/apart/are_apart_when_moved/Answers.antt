use Rattle.std.specs.Int.{w64}
use Rattle.std.proofs.lemmas.Int.{to_z-of_z}
use Rattle.ca_plane.specs.Prelude.{cell, shifted}
use Rattle.ca_parts.proofs.TwoApart.{further-moved, moved-further, apart_from_further, further_from_apart}
use Rattle.ca_parts.proofs.apart.are_apart_when_moved.Goals as goal

pub returns : goal.returns
returns c =
    let one = c.args.one.now in
    let other = c.args.other.now in
    let dx = c.args.dx in
    let dy = c.args.dy in
    let across = simp (to_z-of_z w64 c.args.dx c.ranges.dx) at c.of.ensures.across in
    let down = simp (to_z-of_z w64 c.args.dy c.ranges.dy) at c.of.ensures.down in
    let told = rw (across, down) at c.are_further.ensures in (
      λ yes. apart_from_further (cell (shifted one dx dy)) (cell other) (further-moved one dx dy other (told.0 yes)),
      λ apart. told.1 (moved-further one dx dy other (further_from_apart (cell (shifted one dx dy)) (cell other) apart)),
    )

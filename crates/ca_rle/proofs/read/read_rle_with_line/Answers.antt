use Rattle.std.proofs.Common.{refl}
use Rattle.ca_rle.proofs.ReadParts.{low, room, shown, parts}
use Rattle.ca_rle.proofs.read.read_rle_with_line.Goals as goal

pub draw-requires : goal.draw-requires
draw-requires c =
    let text = c.in_ok-text.ensures.found in
    room _ text.0 _ text.1 255 (low _ text.0 _ text.1)

pub returns-clause-found : goal.returns-clause-found
returns-clause-found c =
    let text = c.in_ok-text.ensures.found in
    let cells = shown _ text.0 _ text.1 _ c.in_ok-cells.ensures.shown in
    (text.0, text.1.is_file, text.1.within, (parts _ text.0 _ text.1 _ _ _ cells c.in_ok-rule_text_of.ensures refl, c.in_ok-cells.ensures.kept))

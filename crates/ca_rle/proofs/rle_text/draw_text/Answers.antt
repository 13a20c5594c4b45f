use Rattle.std.proofs.Common.{arith}
use Rattle.ca_rle.proofs.JudgedTexts.{range, items_most}
use Rattle.ca_rle.proofs.ReadParts.{run_low}
use Rattle.ca_rle.proofs.rle_text.draw_text.Goals as goal

pub draw-requires : goal.draw-requires
draw-requires c =
    let is = c.requires.1 in
    (is.file.items, is.items, range _ _ is, omega (arith, items_most _ _ is, c.if-text-le1.true))

pub draw-requires-2 : goal.draw-requires-2
draw-requires-2 c =
    let is = c.requires.1 in
    (is.file.items, is.items, range _ _ is, run_low _ _ is.file.items is.items.1)

pub returns-then-text-le1-clause-cells : goal.returns-then-text-le1-clause-cells
returns-then-text-le1-clause-cells c = λ bytes is x y. (c.in_ok-draw.ensures.shown is.file.items is.items).0 x y

pub returns-clause-cells : goal.returns-clause-cells
returns-clause-cells c = λ bytes is x y. (c.in_ok-draw-2.ensures.shown is.file.items is.items).0 x y

use Rattle.std.proofs.Common.{suc, ◌<◌, ◌∙◌, arith}
use Rattle.ca_bricks.proofs.diagram_tile.nine_bits.Goals as goal

pub returns : goal.returns
returns c = λ x y h k.
    let i : x < 15 = omega arith in
    let j : suc y < 15 = omega arith in
    let l : y < 15 = omega arith in
    let north = c.north-north.ensures in
    let south = c.south-south.ensures in
    let nw = c.west.ensures x (suc y) i ∙ north x y l in
    let n = north (suc x) y l in
    let ne = c.east.ensures (suc x) (suc y) ∙ north (suc (suc x)) y l in
    let w = c.west-2.ensures x (suc y) i in
    let e = c.east-2.ensures (suc x) (suc y) in
    let sw = c.west-3.ensures x (suc y) i ∙ south x (suc y) j in
    let s = south (suc x) (suc y) j in
    let se = c.east-3.ensures (suc x) (suc y) ∙ south (suc (suc x)) (suc y) j in
    cc

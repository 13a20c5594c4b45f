use Rattle.std.proofs.Common.{◌≡◌, suc, ◌+◌, ap₂, ◌∙◌, arith}
use Rattle.ca_bricks.specs.Prelude.{round_cells}
use Rattle.ca_bricks.proofs.round.Round.nine.Goals as goal

pub returns : goal.returns
returns c = λ x y h k.
    let at = round_cells c.args.self.now in
    let x0 : 0 + x ≡ x = omega arith in
    let x1 : 1 + x ≡ suc x = omega arith in
    let x2 : 2 + x ≡ suc (suc x) = omega arith in
    let y0 : 0 + y ≡ y = omega arith in
    let y1 : 1 + y ≡ suc y = omega arith in
    let y2 : 2 + y ≡ suc (suc y) = omega arith in
    let nw = c.rows_from.ensures x y h k ∙ ap₂ at x0 y0 in
    let n = c.rows_from-2.ensures x y h k ∙ ap₂ at x1 y0 in
    let ne = c.rows_from-3.ensures x y h k ∙ ap₂ at x2 y0 in
    let w = c.rows_from-4.ensures x y h k ∙ ap₂ at x0 y1 in
    let here = c.rows_from-5.ensures x y h k ∙ ap₂ at x1 y1 in
    let e = c.rows_from-6.ensures x y h k ∙ ap₂ at x2 y1 in
    let sw = c.rows_from-7.ensures x y h k ∙ ap₂ at x0 y2 in
    let s = c.rows_from-8.ensures x y h k ∙ ap₂ at x1 y2 in
    let se = c.rows_from-9.ensures x y h k ∙ ap₂ at x2 y2 in
    cc

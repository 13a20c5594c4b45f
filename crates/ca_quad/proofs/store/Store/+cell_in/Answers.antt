use Rattle.std.proofs.Common.{◌∙◌, ◌-◌, sym, arith}
use Rattle.ca_quad.proofs.Walks.{cell_nw, cell_ne, cell_sw, cell_se}
use Rattle.ca_quad.proofs.store.Store.+cell_in.Goals as goal

pub returns-then-x-half : goal.returns-then-x-half
returns-then-x-half t c = λ k h.
    c.cell_in.ensures (c.in-Parts.level - 1) c.in-Parts.ensures.whole.is_nw
    ∙ sym
    (cell_nw c.args.self.now c.args.id k h c.in-Parts.level c.in-Parts.nw c.in-Parts.ne c.in-Parts.sw c.in-Parts.se (omega (arith, c.in-Parts.ensures.whole.least))
    c.in-Parts.ensures.shows c.half_side-half.result c.args.x c.args.y c.half_side-half.ensures.half (omega arith) (omega arith))

pub returns-then-y-half : goal.returns-then-y-half
returns-then-y-half t c = λ k h.
    c.cell_in-then-y-half.ensures (c.in-Parts.level - 1) c.in-Parts.ensures.whole.is_ne
    ∙ sym
    (cell_ne c.args.self.now c.args.id k h c.in-Parts.level c.in-Parts.nw c.in-Parts.ne c.in-Parts.sw c.in-Parts.se (omega (arith, c.in-Parts.ensures.whole.least))
    c.in-Parts.ensures.shows c.half_side-half.result c.args.x c.args.y c.half_side-half.ensures.half (omega arith) (omega arith))

pub returns-then-x-half-2 : goal.returns-then-x-half-2
returns-then-x-half-2 t c = λ k h.
    c.cell_in-then-x-half-2.ensures (c.in-Parts.level - 1) c.in-Parts.ensures.whole.is_sw
    ∙ sym
    (cell_sw c.args.self.now c.args.id k h c.in-Parts.level c.in-Parts.nw c.in-Parts.ne c.in-Parts.sw c.in-Parts.se (omega (arith, c.in-Parts.ensures.whole.least))
    c.in-Parts.ensures.shows c.half_side-half.result c.args.x c.args.y c.half_side-half.ensures.half (omega arith) (omega arith))

pub returns-else-x-half-2 : goal.returns-else-x-half-2
returns-else-x-half-2 t c = λ k h.
    c.cell_in-in-Parts.ensures (c.in-Parts.level - 1) c.in-Parts.ensures.whole.is_se
    ∙ sym
    (cell_se c.args.self.now c.args.id k h c.in-Parts.level c.in-Parts.nw c.in-Parts.ne c.in-Parts.sw c.in-Parts.se (omega (arith, c.in-Parts.ensures.whole.least))
    c.in-Parts.ensures.shows c.half_side-half.result c.args.x c.args.y c.half_side-half.ensures.half (omega arith) (omega arith))

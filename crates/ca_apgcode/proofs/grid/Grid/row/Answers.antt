use Rattle.std.proofs.Common.{◌≡◌, length, subst, ◌∙◌, arith}
use Rattle.ca_apgcode.proofs.RowBits.{IsRowUpTo, IsRowUpTo-bit, bit_of, row_cells}
use Rattle.ca_apgcode.proofs.grid.Grid.row.Goals as goal

pub columns-preserved : goal.columns-preserved
columns-preserved c =
    let grid = c.args.self.now in
    IsRowUpTo-bit grid c.args.y c.columns.x c.columns.row c.from.result (omega (arith, c.columns-test.true, c.width-x-end.ensures.most))
    (c.from.ensures ∙ bit_of grid c.columns.x c.args.y c.is_live.result c.is_live.ensures) c.columns.invariant

pub returns-clause-cells : goal.returns-clause-cells
returns-clause-cells c =
    let grid = c.args.self.now in
    let all : c.columns.x ≡ length grid.columns = omega (arith, c.width-x-end.ensures.width, c.columns-test.false, c.columns.auto.x-end) in
    row_cells grid c.args.y c.columns.row (subst (λ x. IsRowUpTo grid c.args.y x c.columns.row) all c.columns.invariant)

use Rattle.std.proofs.Common.{◌≡◌, sym, ap, subst, arith}
use Rattle.ca_apgcode.specs.Prelude.{GridCells, IsGrid}
use Rattle.ca_apgcode.specs.inner.Turned.{IsTransposed}
use Rattle.ca_apgcode.proofs.RowBits.{AreRows, IsTransposed-rows}
use Rattle.ca_apgcode.proofs.grid.Grid.transposed.Goals as goal

pub returns : goal.returns
returns c =
    let grid = c.args.self.now in
    let columns = c.rows.columns.items in
    let height : c.self.inside.height ≡ grid.height = ap (λ (g : GridCells). g.height) c.self.view_is in
    let all : c.rows.y ≡ grid.height = omega (arith, height, c.rows-test.false, c.rows.auto.y-end) in
    subst (λ h. IsTransposed grid (record { height = h; columns = columns })) (sym c.width.ensures.width)
    (IsTransposed-rows grid columns c.width.ensures.grid (subst (λ n. AreRows grid n columns) all c.rows.invariant))

pub invariant_of-result : goal.invariant_of-result
invariant_of-result c =
    let grid = c.args.self.now in
    let columns = c.rows.columns.items in
    let height : c.self.inside.height ≡ grid.height = ap (λ (g : GridCells). g.height) c.self.view_is in
    let all : c.rows.y ≡ grid.height = omega (arith, height, c.rows-test.false, c.rows.auto.y-end) in
    subst (λ h. IsGrid (record { height = h; columns = columns })) (sym c.width.ensures.width)
    (IsTransposed-rows grid columns c.width.ensures.grid (subst (λ n. AreRows grid n columns) all c.rows.invariant)).is_grid

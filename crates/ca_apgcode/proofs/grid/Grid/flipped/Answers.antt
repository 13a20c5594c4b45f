use Rattle.std.proofs.Common.{◌≡◌, length, sym, ap, subst, arith}
use Rattle.ca_apgcode.specs.Prelude.{GridCells, IsGrid}
use Rattle.ca_apgcode.specs.inner.Turned.{IsFlipped}
use Rattle.ca_apgcode.proofs.ColumnBits.{AreFlipped, IsFlipped-all}
use Rattle.ca_apgcode.proofs.grid.Grid.flipped.Goals as goal

pub invariant_of-result : goal.invariant_of-result
invariant_of-result c =
    let grid = c.args.self.now in
    let columns = c.columns.columns.items in
    let height : c.self.inside.height ≡ grid.height = ap (λ (g : GridCells). g.height) c.self.view_is in
    let size : length c.self.inside.columns.items ≡ length grid.columns = ap (λ (g : GridCells). length g.columns) c.self.view_is in
    let all : c.columns.column-index ≡ length grid.columns = omega (arith, size, c.deref-column-items.ensures.len, c.columns-test.false, c.columns.auto.column-index-end) in
    subst (λ h. IsGrid (record { height = h; columns = columns })) (sym height)
    (IsFlipped-all grid columns (subst IsGrid c.self.view_is c.self.invariant) (subst (λ n. AreFlipped grid n columns) all c.columns.invariant)).is_grid

pub returns : goal.returns
returns c =
    let grid = c.args.self.now in
    let columns = c.columns.columns.items in
    let height : c.self.inside.height ≡ grid.height = ap (λ (g : GridCells). g.height) c.self.view_is in
    let size : length c.self.inside.columns.items ≡ length grid.columns = ap (λ (g : GridCells). length g.columns) c.self.view_is in
    let all : c.columns.column-index ≡ length grid.columns = omega (arith, size, c.deref-column-items.ensures.len, c.columns-test.false, c.columns.auto.column-index-end) in
    subst (λ h. IsFlipped grid (record { height = h; columns = columns })) (sym height)
    (IsFlipped-all grid columns (subst IsGrid c.self.view_is c.self.invariant) (subst (λ n. AreFlipped grid n columns) all c.columns.invariant))

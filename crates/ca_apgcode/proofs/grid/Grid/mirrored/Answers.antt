use Rattle.std.proofs.Common.{reverse, ap, subst, ◌∙◌}
use Rattle.ca_apgcode.specs.Prelude.{GridCells}
use Rattle.ca_apgcode.specs.inner.Turned.{IsMirrored}
use Rattle.ca_apgcode.proofs.RowBits.{IsMirrored-reverse}
use Rattle.ca_apgcode.proofs.grid.Grid.mirrored.Goals as goal

pub invariant_of-result : goal.invariant_of-result
invariant_of-result c =
    let inside : GridCells = record { height = c.self.inside.height; columns = c.self.inside.columns.items } in
    (IsMirrored-reverse inside c.reverse.new.self.items c.self.invariant (c.reverse.ensures.items ∙ ap reverse (c.in_ok-columns.ensures.items ∙ c.deref.ensures.value))).is_grid

pub returns : goal.returns
returns c =
    let inside : GridCells = record { height = c.self.inside.height; columns = c.self.inside.columns.items } in
    subst (λ g. IsMirrored g (record { height = c.self.inside.height; columns = c.reverse.new.self.items })) c.self.view_is
    (IsMirrored-reverse inside c.reverse.new.self.items c.self.invariant (c.reverse.ensures.items ∙ ap reverse (c.in_ok-columns.ensures.items ∙ c.deref.ensures.value)))
